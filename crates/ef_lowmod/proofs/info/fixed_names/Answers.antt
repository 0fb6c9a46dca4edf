use Rattle.ef_base.specs.Laws.{extends_later}
use Rattle.ef_lowmod.proofs.info.fixed_names.Goals as goal

pub returns-clause-fixed : goal.returns-clause-fixed
returns-clause-fixed c = λ all later.
    let third = extends_later c.in_ok-get_module_info.ensures.kept later in
    let second = extends_later c.in_ok-erlang.ensures.kept third in
    record {
      module_info = c.in_ok-module_info.ensures.named all second;
      erlang = c.in_ok-erlang.ensures.named all third;
      get_module_info = c.in_ok-get_module_info.ensures.named all later;
    }
