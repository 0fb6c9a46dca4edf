-- Clauses that can be lowered, one by one.
use Rattle.std.proofs.Common.{◌≡◌, ◌≤◌, ◌<◌, ◌+◌, ℕ, zero, suc, bytes_eq, codes, true, List, [], ◌∷◌, ◌++◌, length, get_or, refl, sym, ◌∙◌, subst, arith}
use Rattle.std.specs.List.{All, list_any}
use Rattle.ef_base.specs.Texts.{Texts, Extends, HasText}
use Rattle.ef_base.specs.Laws.{named_later, text_among}
use Rattle.ef_base.specs.Words.{fixed_words}
use Rattle.ef_base.specs.declared.fault.Place.{Place}
use Rattle.ef_core.specs.Everywhere.{Each}
use Rattle.ef_forms.specs.declared.expr.Clause.{Clause, out-Clause}
use Rattle.ef_forms.specs.declared.expr.Expr.{Expr}
use Rattle.ef_forms.specs.declared.tables.FunctionName.{FunctionName}
use Rattle.ef_forms.specs.Built.{AreBuilt, AreBuiltClauses, ArePatterns, AreSome}
use Rattle.ef_forms.specs.Depth.{clauses_depth}
use Rattle.ef_forms.specs.Plain.{plain_all, plain_clauses, plain_guard}
use Rattle.ef_forms.specs.Tree.{Clauses, Guards, Trees, clause, count, end, more, no_clauses, no_guard, or_guard}
use Rattle.ef_forms.specs.Ways.{all_names, body_faults, clauses_faults, guards_faults, no_names, patterns_faults}
use Rattle.ef_forms.specs.Weight.{all_weight, clauses_weight}
use Rattle.ef_lowpat.proofs.Depths.{some_depths}
use Rattle.ef_forms.proofs.Plain.{counted}
use Rattle.ef_lower.proofs.Faults.{nothing_left, nothing_right}
use Rattle.ef_lower.proofs.Sizes.{some_weight}
use Rattle.ef_lowmod.specs.Clauses.{AreReadyClauses, IsReadyClause}
use Rattle.ef_lowmod.specs.Function.{HasWords}
use Rattle.ef_lowpat.specs.Guards.{HoldsWords}

-- ---- words

-- a table keeps its texts
pub words_later : (now all : Texts) (words : List (List ℕ)) → Extends now all → HoldsWords now words → HoldsWords all words
words_later now all [] later has = tt
words_later now all (w ∷ words) later has = ((has.0.0, named_later now all has.0.0 w has.0.1 later), words_later now all words later has.1)

-- what functions are lowered to names fixed words
pub fixed_hold : (texts : Texts) → All (HasText texts) fixed_words → HasWords texts
fixed_hold texts all =
    (at (codes "function_clause") refl, (at (codes "erlang") refl, (at (codes "=:=") refl, (at (codes "true") refl, (at (codes "match_fail") refl, (at (codes "badmatch") refl, (at (codes "case_clause") refl, tt)))))))
  where
    at : (word : List ℕ) → list_any (λ w. bytes_eq w word) fixed_words ≡ true → HasText texts word
    at word found = text_among texts fixed_words word all found

-- ---- lists

pub each_at : {A : Type 0} (P : A → Type 0) (xs : List A) (i : ℕ) (x : A) → Each P xs → i < length xs → x ≡ get_or xs i x → P x
each_at P [] i x all small read = absurd (omega arith)
each_at P (y ∷ xs) zero x all small read = subst P (sym read) all.0
each_at P (y ∷ xs) (suc i) x all small read = each_at P xs i x all.1 (omega arith) read

-- ---- one clause, and those behind it

-- the parts of the first of clauses that are built
record FirstParts (all : Texts) (defined : List FunctionName) (arity : ℕ) (ps : Trees) (g : Guards) (body : Trees) (cs : Clauses) : Type 0 where
  pub unguarded : g ≡ no_guard
  pub number : count ps ≡ arity
  pub patterns : ArePatterns ps
  pub some : 1 ≤ count body
  pub built : AreBuilt all defined body
  pub rest : AreBuiltClauses all defined arity cs

first_parts : (all : Texts) (defined : List FunctionName) (arity : ℕ) (p : Place) (ps : Trees) (g : Guards) (body : Trees) (cs : Clauses) → AreBuiltClauses all defined arity (clause p ps g body cs) → FirstParts all defined arity ps g body cs
first_parts all defined arity p ps no_guard body cs built = record { unguarded = refl; number = built.0; patterns = built.1; some = built.2; built = built.3; rest = built.4 }
first_parts all defined arity p ps (or_guard es gs) body cs built = absurd built

module _ (all : Texts) (defined : List FunctionName) (arity : ℕ) where
  behind_guard : (ps : Trees) (g : Guards) (body : Trees) (cs : Clauses)
      → patterns_faults all ps (no_names ∷ []) ++ (guards_faults all g (all_names ps ∷ []) ++ (body_faults all body (all_names ps ∷ []) ++ clauses_faults all cs (no_names ∷ []))) ≡ []
      → body_faults all body (all_names ps ∷ []) ++ clauses_faults all cs (no_names ∷ []) ≡ []
  behind_guard ps g body cs none = nothing_right (guards_faults all g (all_names ps ∷ [])) _ (nothing_right (patterns_faults all ps (no_names ∷ [])) _ none)

  behind_first : (p : Place) (ps : Trees) (g : Guards) (body : Trees) (cs : Clauses) → AreReadyClauses all defined arity (clause p ps g body cs) → AreReadyClauses all defined arity cs
  behind_first p ps g body cs ready = record {
    built = (first_parts all defined arity p ps g body cs ready.built).rest;
    narrow = ready.narrow.4;
    of_table = ready.of_table.3;
    no_fault = nothing_right (body_faults all body (all_names ps ∷ [])) (clauses_faults all cs (no_names ∷ [])) (behind_guard ps g body cs ready.no_fault);
  }

  first_ready : (c : Clause) (cs : Clauses) → AreReadyClauses all defined arity (clause (out-Clause c).place (plain_all (out-Clause c).patterns.items) (plain_guard (out-Clause c).guard.items) (plain_all (out-Clause c).body.items) cs) → IsReadyClause all defined c
  first_ready c cs ready =
      let ps = plain_all (out-Clause c).patterns.items in
      let body = plain_all (out-Clause c).body.items in
      let parts = first_parts all defined arity (out-Clause c).place ps (plain_guard (out-Clause c).guard.items) body cs ready.built in
      let some : 1 ≤ count body = parts.some in
      let number = counted (out-Clause c).body.items in
      record {
        unguarded = parts.unguarded;
        patterns = parts.patterns;
        named = ready.of_table.0;
        some = omega arith;
        built = parts.built;
        narrow = ready.narrow.3;
        of_table = ready.of_table.2;
        no_fault = nothing_left (body_faults all body (all_names ps ∷ [])) (clauses_faults all cs (no_names ∷ [])) (behind_guard ps (plain_guard (out-Clause c).guard.items) body cs ready.no_fault);
      }

  pub each_ready : (cs : List Clause) → AreReadyClauses all defined arity (plain_clauses cs) → Each (IsReadyClause all defined) cs
  each_ready [] ready = tt
  each_ready (c ∷ cs) ready = (
    first_ready c (plain_clauses cs) ready,
    each_ready cs (behind_first (out-Clause c).place (plain_all (out-Clause c).patterns.items) (plain_guard (out-Clause c).guard.items) (plain_all (out-Clause c).body.items) (plain_clauses cs) ready),
  )

  pub each_number : (cs : List Clause) → AreReadyClauses all defined arity (plain_clauses cs) → Each (λ (c : Clause). length (out-Clause c).patterns.items ≡ arity) cs
  each_number [] ready = tt
  each_number (c ∷ cs) ready =
      let parts = first_parts all defined arity (out-Clause c).place (plain_all (out-Clause c).patterns.items) (plain_guard (out-Clause c).guard.items) (plain_all (out-Clause c).body.items) (plain_clauses cs) ready.built in (
        sym (counted (out-Clause c).patterns.items) ∙ parts.number,
        each_number cs (behind_first (out-Clause c).place (plain_all (out-Clause c).patterns.items) (plain_guard (out-Clause c).guard.items) (plain_all (out-Clause c).body.items) (plain_clauses cs) ready),
      )

-- ---- sizes

count_weight : (es : Trees) → count es ≤ all_weight es
count_weight end = omega arith
count_weight (more e es) = let rest = count_weight es in let one = some_weight e in omega arith

pub some_weights : (es : List Expr) → 1 ≤ length es → 1 ≤ all_weight (plain_all es)
some_weights es some = let number = counted es in let weight = count_weight (plain_all es) in omega arith

-- some clauses are heavier than their parameters, which are few
pub record Sizes (arity : ℕ) (cs : Clauses) : Type 0 where
  pub heavy : arity + 1 ≤ clauses_weight cs
  pub few : arity ≤ 255
  pub deep : 1 ≤ clauses_depth cs

pub sizes : (all : Texts) (defined : List FunctionName) (arity : ℕ) (cs : Clauses) → AreSome cs → AreReadyClauses all defined arity cs → Sizes arity cs
sizes all defined arity no_clauses some ready = absurd some
sizes all defined arity (clause p ps g body cs) some ready =
    let parts = first_parts all defined arity p ps g body cs ready.built in
    let number : count ps ≡ arity = parts.number in
    let few : count ps ≤ 255 = ready.narrow.0 in
    let one : 1 ≤ count body = parts.some in
    let patterns = count_weight ps in
    let bodies = count_weight body in
    let deep = some_depths body one in
    record { heavy = omega arith; few = omega arith; deep = omega arith }
