-- Source trees, without where they lie in memory: two trees are the same where they agree in every part.
use Rattle.std.specs.Prelude.{ℕ, ℤ, Bool, List, [], ◌∷◌, ◌+◌, Option}
use Rattle.ef_base.specs.declared.name.Name.{Name}
use Rattle.ef_base.specs.declared.fault.Place.{Place}
use Rattle.ef_forms.specs.declared.expr.BinaryOp.{BinaryOp}
use Rattle.ef_forms.specs.declared.expr.ClassPart.{ClassPart}
use Rattle.ef_forms.specs.declared.expr.TypeWord.{TypeWord}
use Rattle.ef_forms.specs.declared.expr.UnaryOp.{UnaryOp}
use Rattle.ef_forms.specs.declared.form.FunctionRef.{FunctionRef}

mutual
  -- an expression at its place
  pub data Tree : Type 0 where
    tree : Place → Shape → Tree

  pub data Shape : Type 0 where
    int : ℤ → Shape
    character : ℕ → Shape
    string : List ℕ → Shape
    atom : Name → Shape
    var : Name → Shape
    -- `_`
    any : Shape
    list : Trees → Shape
    -- items before a tail
    list_to : Trees → Tree → Shape
    tuple : Trees → Shape
    binary : Segments → Shape
    unary : UnaryOp → Tree → Shape
    operation : BinaryOp → Tree → Tree → Shape
    and_also : Tree → Tree → Shape
    or_else : Tree → Tree → Shape
    -- a pattern, and what is matched with it
    matching : Tree → Tree → Shape
    catching : Tree → Shape
    call : Tree → Trees → Shape
    remote : Tree → Tree → Trees → Shape
    record_new : Name → Fields → Shape
    record_update : Tree → Name → Fields → Shape
    -- the record, then the name of the field
    record_field : Tree → Name → Name → Shape
    record_index : Name → Name → Shape
    block : Trees → Shape
    if_of : Clauses → Shape
    case_of : Tree → Clauses → Shape
    receive_of : Clauses → Shape
    -- the timeout, and the body that is done then
    receive_after : Clauses → Tree → Trees → Shape
    -- the body, the clauses of `of`, the clauses that catch, and the body of `after`
    try_of : Trees → MaybeClauses → Catches → MaybeTrees → Shape
    -- the steps, and the clauses of `else`
    maybe : Steps → MaybeClauses → Shape
    list_comp : Tree → Qualifiers → Shape
    bin_comp : Tree → Qualifiers → Shape
    -- `fun f/a`
    fun_local : Name → ℕ → Shape
    fun_remote : Tree → Tree → Tree → Shape
    fun_of : Clauses → Shape
    named_fun : Name → Clauses → Shape

  pub data Trees : Type 0 where
    end : Trees
    more : Tree → Trees → Trees

  -- the alternatives of a guard
  pub data Guards : Type 0 where
    no_guard : Guards
    or_guard : Trees → Guards → Guards

  -- clauses, each with its place, patterns, guard and body
  pub data Clauses : Type 0 where
    no_clauses : Clauses
    clause : Place → Trees → Guards → Trees → Clauses → Clauses

  -- clauses that may be left out
  pub data MaybeClauses : Type 0 where
    left_out : MaybeClauses
    these : Clauses → MaybeClauses

  -- a body that may be left out
  pub data MaybeTrees : Type 0 where
    absent : MaybeTrees
    present : Trees → MaybeTrees

  -- clauses that catch, each with its place, class, pattern, trace, guard and body
  pub data Catches : Type 0 where
    no_catches : Catches
    catches : Place → ClassPart → Tree → Option Name → Guards → Trees → Catches → Catches

  -- segments, each with its place, value, size where one is written, and type words
  pub data Segments : Type 0 where
    no_segments : Segments
    segment : Place → Tree → List TypeWord → Segments → Segments
    sized : Place → Tree → Tree → List TypeWord → Segments → Segments

  -- settings of fields, each with its place, the name of the field, which `_` has not, and the value
  pub data Fields : Type 0 where
    no_fields : Fields
    field : Place → Option Name → Tree → Fields → Fields

  -- steps of `maybe`: expressions, and those whose value is matched with a pattern
  pub data Steps : Type 0 where
    no_steps : Steps
    step : Tree → Steps → Steps
    step_to : Tree → Tree → Steps → Steps

  -- generators, each with its pattern, its source and whether it is strict, and filters
  pub data Qualifiers : Type 0 where
    no_qualifiers : Qualifiers
    list_from : Tree → Tree → Bool → Qualifiers → Qualifiers
    bits_from : Tree → Tree → Bool → Qualifiers → Qualifiers
    filter : Tree → Qualifiers → Qualifiers

-- a field of a record that is defined, with the value that it takes where none is given
pub record FieldTree : Type 0 where
  pub place : Place
  pub name : Name
  pub default : Option Tree

pub record RecordTree : Type 0 where
  pub place : Place
  pub name : Name
  pub fields : List FieldTree

pub record FunctionTree : Type 0 where
  pub place : Place
  pub name : Name
  pub arity : ℕ
  pub clauses : Clauses

pub data FormTree : Type 0 where
  module_name : Name → FormTree
  export : List FunctionRef → FormTree
  import : Name → List FunctionRef → FormTree
  record_of : RecordTree → FormTree
  attribute : Name → Tree → FormTree
  dropped : FormTree
  export_all : FormTree
  function : FunctionTree → FormTree

pub record PlacedTree : Type 0 where
  pub place : Place
  pub form : FormTree

pub record ModuleTree : Type 0 where
  pub name : Name
  pub forms : List PlacedTree

abbrev pub count : Trees → ℕ
count end = 0
count (more e es) = 1 + count es

abbrev pub listed : Trees → List Tree
listed end = []
listed (more e es) = e ∷ listed es
