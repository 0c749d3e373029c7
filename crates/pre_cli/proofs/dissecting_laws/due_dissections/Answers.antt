use Rattle.pre_cli.proofs.DueDissections.{missing_capture, long_capture, whole_capture, faulty_capture}
use Rattle.pre_cli.proofs.dissecting_laws.due_dissections.Goals as goal

pub returns : goal.returns
returns c = record {
  words = λ name o cause. cause;
  missing = λ s name o told tells none cause. missing_capture name o told tells none s cause;
  long = λ s name octets o told tells at more cause. long_capture name o told tells octets at more s cause;
  whole = λ s name octets records o told tells is captured cause. whole_capture name o told tells octets is.0 c.one_capture.ensures.apart is.1 records captured s cause;
  faulty = λ s name octets e o told tells is first cause. faulty_capture name o told tells octets is.0 c.one_capture.ensures.apart is.1 c.one_capture.ensures.fault e first s cause;
}
