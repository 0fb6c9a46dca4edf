-- Core trees, without where they lie in memory: two trees are the same where they agree in every part.
use Rattle.std.specs.Prelude.{ℤ, List}
use Rattle.ef_base.specs.declared.name.Name.{Name}
use Rattle.ef_core.specs.declared.literal.CoreVar.{CoreVar}
use Rattle.ef_core.specs.declared.literal.FName.{FName}

mutual
  pub data LitTree : Type 0 where
    int : ℤ → LitTree
    atom : Name → LitTree
    lit_list : LitTrees → LitTree
    lit_list_to : LitTrees → LitTree → LitTree
    lit_tuple : LitTrees → LitTree

  pub data LitTrees : Type 0 where
    no_lits : LitTrees
    more_lits : LitTree → LitTrees → LitTrees

mutual
  pub data CoreTree : Type 0 where
    var : CoreVar → CoreTree
    lit : LitTree → CoreTree
    fun_name : FName → CoreTree
    a_fun : List CoreVar → CoreTree → CoreTree
    value_list : CoreTrees → CoreTree
    tuple : CoreTrees → CoreTree
    list : CoreTrees → CoreTree
    list_to : CoreTrees → CoreTree → CoreTree
    bin : CoreSegments → CoreTree
    lets : CoreSteps → CoreTree → CoreTree
    letrec : CoreDefs → CoreTree → CoreTree
    case_of : CoreTree → CoreClauses → CoreTree
    apply : CoreTree → CoreTrees → CoreTree
    call : CoreTree → CoreTree → CoreTrees → CoreTree
    primop : Name → CoreTrees → CoreTree
    do_then : CoreTree → CoreTree → CoreTree
    -- the clauses, the timeout, and the body after it
    receive : CoreClauses → CoreTree → CoreTree → CoreTree
    -- the argument, its variables and the body; the variables of an exception and the handler
    try_catch : CoreTree → List CoreVar → CoreTree → List CoreVar → CoreTree → CoreTree

  pub data CoreTrees : Type 0 where
    end : CoreTrees
    more : CoreTree → CoreTrees → CoreTrees

  -- segments, each with its value, size, unit, type and flags
  pub data CoreSegments : Type 0 where
    no_segments : CoreSegments
    segment : CoreTree → CoreTree → ℤ → Name → LitTree → CoreSegments → CoreSegments

  -- a run of lets, each with its variables and its value
  pub data CoreSteps : Type 0 where
    done : CoreSteps
    step : List CoreVar → CoreTree → CoreSteps → CoreSteps

  -- functions, each with its name, parameters and body
  pub data CoreDefs : Type 0 where
    no_defs : CoreDefs
    def : FName → List CoreVar → CoreTree → CoreDefs → CoreDefs

  -- clauses, each with its patterns, guard and body
  pub data CoreClauses : Type 0 where
    no_clauses : CoreClauses
    clause : PatTrees → CoreTree → CoreTree → CoreClauses → CoreClauses

  pub data PatTree : Type 0 where
    pat_var : CoreVar → PatTree
    pat_lit : LitTree → PatTree
    pat_tuple : PatTrees → PatTree
    pat_list : PatTrees → PatTree
    pat_list_to : PatTrees → PatTree → PatTree
    alias : CoreVar → PatTree → PatTree
    pat_bin : PatSegments → PatTree

  pub data PatTrees : Type 0 where
    no_pats : PatTrees
    more_pats : PatTree → PatTrees → PatTrees

  pub data PatSegments : Type 0 where
    no_pat_segments : PatSegments
    pat_segment : PatTree → CoreTree → ℤ → Name → LitTree → PatSegments → PatSegments

pub record AttributeTree : Type 0 where
  pub name : Name
  pub term : LitTree

pub record DefTree : Type 0 where
  pub name : FName
  pub params : List CoreVar
  pub body : CoreTree

pub record CoreModuleTree : Type 0 where
  pub name : Name
  pub exports : List FName
  pub attributes : List AttributeTree
  pub defs : List DefTree
