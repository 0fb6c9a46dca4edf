use Rattle.std.proofs.Common.{arith}
use Rattle.ef_front.proofs.Told.{ends_after, rose_on}
use Rattle.ef_front.proofs.telling.tell.Goals as goal

pub returns-in-Err-clause-tells : goal.returns-in-Err-clause-tells
returns-in-Err-clause-tells g c =
    let put = c.in-Err.ensures in let line = c.try_line.ensures in (
      ends_after _ _ _ _ _ c.in-Err.failed put.puts put.cause line.ends line.count,
      omega (arith, put.cause.0, line.count),
      rose_on _ _ _ put.cause.0 put.cause.1 line.count,
    )
