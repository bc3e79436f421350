-- `overhead::padding::block_end`: the code is the definition, and its start is at most from + (p - 1). Assumes nothing.
use Rattle.std.proofs.Common.{arith}
use Rattle.overhead.proofs.Turns.{start_most}
use Rattle.overhead.proofs.padding.block_end.Goals as goal

pub overflow_mul-result : goal.overflow_mul-result
overflow_mul-result c = let a = c.args in omega (arith, start_most a.p a.from)

pub overflow_add-result-2 : goal.overflow_add-result-2
overflow_add-result-2 c = let a = c.args in omega (arith, start_most a.p a.from)
