use Rattle.pre_cli.proofs.CaptureRead.{CapturesAreRead, whole_read, front_read}
use Rattle.pre_cli.proofs.capturing_laws.captures_are_read_back.Goals as goal

pub returns : goal.returns
returns c =
    let known : CapturesAreRead = record {
      fits = c.dissect_law.ensures.fits;
      whole = c.dissect_law.ensures.whole;
      fits_before = c.dissect_law.ensures.fits_before;
      before = c.dissect_law.ensures.before;
      read = c.read_back.ensures.read;
    } in
    record {
      done = λ words o told old new octets tells before after took leaves. whole_read known words o told old new octets tells before after took leaves;
      alias = λ words o told old new octets arc ordinal tells before after took leaves. front_read known words o told old new octets tells before after took arc ordinal leaves;
    }
