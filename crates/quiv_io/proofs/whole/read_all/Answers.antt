use Rattle.std.proofs.Common.{◌++◌, take, arith}
use Rattle.std.proofs.lemmas.List.{length-append, length-take, length-take-le}
use Rattle.quiv_io.proofs.Joined.{Gives-append}
use Rattle.quiv_io.proofs.whole.read_all.Goals as goal

pub returns-then-n-most-clause-refused : goal.returns-then-n-most-clause-refused
returns-then-n-most-clause-refused g c =
    let next = take c.in-Ok.n c.read.new.into in
    record {
      given = c.pieces.bytes.items ++ next;
      count = omega (arith, length-append c.pieces.bytes.items next, length-take-le c.in-Ok.n c.read.new.into c.in-Ok.ensures.within, c.in-Ok.ensures.within, length-take c.min-room.result c.pieces.piece);
      gives = Gives-append _ _ _ c.pieces.bytes.items next c.pieces.invariant.given c.in-Ok.ensures.given;
    }

pub returns-then-is_err-clause-refused : goal.returns-then-is_err-clause-refused
returns-then-is_err-clause-refused g c =
    let next = take c.in-Ok.n c.read.new.into in
    record {
      given = c.pieces.bytes.items ++ next;
      count = omega (arith, length-append c.pieces.bytes.items next, length-take-le c.in-Ok.n c.read.new.into c.in-Ok.ensures.within, c.in-Ok.ensures.within, length-take c.min-room.result c.pieces.piece);
      gives = Gives-append _ _ _ c.pieces.bytes.items next c.pieces.invariant.given c.in-Ok.ensures.given;
    }
