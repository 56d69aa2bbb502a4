-- `is_proof`: the walk, with marks that are empty at first.
use Rattle.proofcheck.proofs.BarMarks.{unmarked_zeros}
use Rattle.proofcheck.proofs.accepted.is_proof.Goals as goal

pub row_proves-requires : goal.row_proves-requires
row_proves-requires c = record {
  tabled = c.requires;
  unmarked = unmarked_zeros;
}
