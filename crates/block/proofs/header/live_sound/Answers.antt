-- `block::header::live_sound`: the fields are read, and the tests are those of `live_by`. Assumes nothing.
use Rattle.std.proofs.Common.{◌^◌, ◌<◌, sym, arith}
use Rattle.block.specs.Layout.{header_at}
use Rattle.block.specs.laws.Headers.{header_at-fitting}
use Rattle.block.proofs.Headers.{live_by}
use Rattle.block.proofs.header.live_sound.Goals as goal

-- each test, by the field that it reads
pub returns : goal.returns
unfolding header_at
returns c = rw (c.spare_good.ensures, c.requires.2, c.size_at-size.ensures) (sym (live_by _ _ c.requires.0 c.requires.1 c.requires.3))

pub spare_good-requires : goal.spare_good-requires
spare_good-requires c =
    let size_fits : c.size_at-size.result < 2 ^ 32 = let f = header_at-fitting c.args.image.now (λ k. (c.type_inv.image k).fits) c.args.h in omega (arith, c.size_at-size.ensures) in
    size_fits
