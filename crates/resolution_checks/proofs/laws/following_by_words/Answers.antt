use Rattle.resolution_checks.proofs.FollowEntries.{follow_entry}
use Rattle.resolution_checks.proofs.laws.following_by_words.Goals as goal

pub returns : goal.returns
returns c = λ q Q W Y t next j c i z l b m k. follow_entry W Y t next j c l b i z m k
