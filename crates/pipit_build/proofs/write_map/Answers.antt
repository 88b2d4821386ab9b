use Rattle.std.proofs.Common.{arith, sym, length-take-le}
use Rattle.pipit_build.proofs.Room.{written_within}
use Rattle.pipit_build.proofs.write_map.Goals as goal

pub slice_bounds-image-end : goal.slice_bounds-image-end
slice_bounds-image-end c = let within = written_within _ _ c.in-Ok.bytes c.in-Ok.ensures.answer in omega arith

pub slice_bounds-write_all-end : goal.slice_bounds-write_all-end
slice_bounds-write_all-end c =
    let within = written_within _ _ c.in-Ok.bytes c.in-Ok.ensures.answer in
    sym (length-take-le c.in-Ok.bytes c.build.new.output (omega arith))
