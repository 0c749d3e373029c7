use Rattle.pre_read_back.proofs.Comments.{comments_skipped}
use Rattle.pre_read_back.proofs.laws.comments_are_skipped.Goals as goal

pub returns : goal.returns
returns c = comments_skipped
