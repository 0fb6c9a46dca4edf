use Rattle.std.proofs.Common.{◌≡◌, ◌++◌, drop, map}
use Rattle.std.specs.List.{flat_map}
use Rattle.ef_forms.specs.Tree.{FieldTree}
use Rattle.ef_forms.specs.Nodes.{default_nodes, record_nodes}
use Rattle.ef_forms.specs.Plain.{plain_field_def, plain_record}
use Rattle.ef_forms.specs.Shown.{shown}
use Rattle.ef_forms.proofs.walk.record_nodes.Given as goal

abbrev pub invariant-loop-field : goal.invariant-loop-field
invariant-loop-field l =
    shown l.into.items ++ flat_map (λ (f : FieldTree). default_nodes f.default) (map plain_field_def (drop l.field-index l.definition.fields.items)) ≡ shown l.initial.into.items ++ record_nodes (plain_record l.definition)
