use Rattle.ef_meaning.proofs.RowsHold.{case_rows_hold, match_rows_hold, refused_rows_hold, rows_hold}
use Rattle.ef_meaning.proofs.ExamplesKeep.{core_keeps}
use Rattle.ef_meaning.proofs.promises.rows.Goals as goal

pub returns-clause-shown : goal.returns-clause-shown
returns-clause-shown c = rows_hold

pub returns-clause-matched : goal.returns-clause-matched
returns-clause-matched c = match_rows_hold

pub returns-clause-branched : goal.returns-clause-branched
returns-clause-branched c = case_rows_hold

pub returns-clause-kept : goal.returns-clause-kept
returns-clause-kept c = core_keeps

pub returns-clause-refused : goal.returns-clause-refused
returns-clause-refused c = refused_rows_hold
