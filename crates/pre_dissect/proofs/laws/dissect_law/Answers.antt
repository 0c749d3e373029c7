use Rattle.pre_dissect.proofs.DissectLaw.{LowerLaws, legal_tells, alias_tells}
use Rattle.pre_dissect.proofs.ToldResults.{tell_results}
use Rattle.pre_dissect.proofs.laws.dissect_law.Goals as goal

pub returns : goal.returns
returns c =
    let lower : LowerLaws = record {
      one_given = c.one_given.ensures;
      results = c.arrivals_are_read.ensures.results;
      one_capture = c.one_capture.ensures.records;
      read = c.read_back.ensures.read;
    } in
    record {
      results = λ w n h a lt legal records takings store taken. tell_results w n h a lt legal c.one_given.ensures (c.arrivals_are_read.ensures.results w n h a lt legal) records takings store taken;
      fits = λ w h a lt fits legal. (legal_tells lower w a lt fits h legal).0;
      whole = λ w h a lt fits legal. (legal_tells lower w a lt fits h legal).1;
      fits_before = λ w h a t b i lt fits first. (alias_tells lower w a lt fits h t b i first).0;
      before = λ w h a t b i lt fits first. (alias_tells lower w a lt fits h t b i first).1;
    }
