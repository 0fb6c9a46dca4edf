use Rattle.std.specs.Prelude.{chars}
use Rattle.ef_core.specs.Layout.{module_pieces, text_of}
use Rattle.ef_core.specs.Plain.{plain_module}
use Rattle.ef_core.proofs.CoreCut.{one_way}
use Rattle.ef_core.proofs.Law.{reads}
use Rattle.ef_print.proofs.Written.{text_printed, all_stays, all_puts, all_cause, all_fits}
use Rattle.ef_print.proofs.module.print.Goals as goal

pub returns-clause-stays : goal.returns-clause-stays
returns-clause-stays g c = all_stays _ _ _ _ (text_printed _ _ _ (module_pieces c.args.names.now (plain_module c.args.module.now)) _ _ _ c.print_module-last.ensures.prints.as_told c.finished-written.ensures c.write.ensures.appends)

pub returns-clause-puts : goal.returns-clause-puts
returns-clause-puts g c = all_puts _ _ _ _ (text_printed _ _ _ (module_pieces c.args.names.now (plain_module c.args.module.now)) _ _ _ c.print_module-last.ensures.prints.as_told c.finished-written.ensures c.write.ensures.appends)

pub returns-clause-cause : goal.returns-clause-cause
returns-clause-cause g c = all_cause _ _ _ _ (text_printed _ _ _ (module_pieces c.args.names.now (plain_module c.args.module.now)) _ _ _ c.print_module-last.ensures.prints.as_told c.finished-written.ensures c.write.ensures.appends)

pub returns-clause-fits : goal.returns-clause-fits
returns-clause-fits g c = all_fits _ _ _ _ (text_printed _ _ _ (module_pieces c.args.names.now (plain_module c.args.module.now)) _ _ _ c.print_module-last.ensures.prints.as_told c.finished-written.ensures c.write.ensures.appends)

pub returns-clause-one_cut : goal.returns-clause-one_cut
returns-clause-one_cut g c = one_way (chars (text_of c.args.names.now (plain_module c.args.module.now)))

pub returns-clause-read : goal.returns-clause-read
returns-clause-read g c = reads c.args.names.now (plain_module c.args.module.now)
