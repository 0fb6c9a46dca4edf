-- Matching of the source (Erlang Reference Manual, "Pattern Matching").
use Rattle.std.specs.Prelude.{◌==◌, if◌then◌else◌, List, [], ◌∷◌, Option, Some, None}
use Rattle.ef_base.specs.declared.name.Name.{Name}
use Rattle.ef_base.specs.Texts.{Texts, text}
use Rattle.ef_forms.specs.Tree.{Tree, Shape, Trees, tree, int, atom, var, any, list, list_to, tuple, end, more}
use Rattle.ef_meaning.specs.Value.{Value, Values, Integer, Atom, Nil, none, some, values_of, head_and_tail, elements, with_some}
use Rattle.ef_meaning.specs.Same.{same_value}

-- names and their values, the last one first
abbrev pub Bindings : Type 0
Bindings = List (Name × Value)

abbrev pub value_of : Name → Bindings → Option Value
value_of n [] = None
value_of n (b ∷ bs) = if b.0.index == n.index then Some b.1 else value_of n bs

abbrev pub compared : Value → Value → Bindings → Option Bindings
compared u v b = if same_value u v then Some b else None

-- a name that is bound compares, and one that isn't is bound
abbrev pub match_name : Name → Option Value → Value → Bindings → Option Bindings
match_name n None v b = Some ((n, v) ∷ b)
match_name n (Some u) v b = compared u v b

module _ (all : Texts) where
  abbrev mutual
    -- whether a value matches a pattern under bindings, and the bindings that result; other expressions are no patterns, or not built yet
    pub matches : Tree → Value → Bindings → Option Bindings
    matches (tree p e) v b = matches_shape e v b

    pub matches_shape : Shape → Value → Bindings → Option Bindings
    matches_shape (int i) v b = compared (Integer i) v b
    matches_shape (atom n) v b = compared (Atom (text all n)) v b
    matches_shape (var n) v b = match_name n (value_of n b) v b
    matches_shape any v b = Some b
    matches_shape (list es) v b = with_some (match_items es v b) (λ r. compared Nil r.0 r.1)
    matches_shape (list_to es e) v b = with_some (match_items es v b) (λ r. matches e r.0 r.1)
    matches_shape (tuple es) v b = with_some (elements v) (λ vs. match_values es vs b)
    matches_shape _ v b = None

    -- the front of a list matches these; its tail, and the bindings that result
    pub match_items : Trees → Value → Bindings → Option (Value × Bindings)
    match_items end v b = Some (v, b)
    match_items (more p ps) v b = with_some (head_and_tail v) (λ c. with_some (matches p c.0 b) (λ d. match_items ps c.1 d))

    -- values match as many patterns
    pub match_values : Trees → Values → Bindings → Option Bindings
    match_values end none b = Some b
    match_values (more p ps) (some v vs) b = with_some (matches p v b) (λ c. match_values ps vs c)
    match_values _ _ b = None

  abbrev pub match_all : Trees → List Value → Bindings → Option Bindings
  match_all ps vs b = match_values ps (values_of vs) b
