-- `store::release::merge` meets its contract: the bytes from `from` to `to` are filled with zeros, then the free header is put. Assumes nothing.
use Rattle.std.proofs.lemmas.Grind.{common_steps}
use Rattle.std.proofs.Common.{arith}
use Rattle.store.proofs.Merging.{merged-over}
use Rattle.store.proofs.release.merge.Goals as goal

-- one free block
pub returns : goal.returns
returns c = grind (arith, common_steps, merged-over)
