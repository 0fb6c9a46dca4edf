-- The forms that are kept, and the faults of the others, form by form.
use Rattle.std.proofs.Common.{◌≡◌, List, [], ◌∷◌, ◌++◌, Bool, true, false, cond, refl, sym, ap, ◌∙◌, append-nil}
use Rattle.std.specs.Prelude.{Vec}
use Rattle.std.specs.declared.alloc.Global.{Global}
use Rattle.ef_base.specs.declared.fault.Fault.{Fault}
use Rattle.ef_base.specs.FaultTable as table
use Rattle.ef_base.specs.Faults.{set_of, insert_fault}
use Rattle.ef_base.specs.NamedFaults.{plain}
use Rattle.ef_base.specs.Texts.{Texts}
use Rattle.ef_token.specs.declared.token.Token.{Token}
use Rattle.ef_token.specs.TokenForm.{AreForms}
use Rattle.ef_parse.specs.Spelled.{start_of}
use Rattle.ef_module.specs.Modules.{lists}
use Rattle.ef_profile.proofs.Adding.{adds_none, adds_one, adds_then}
use Rattle.ef_front.specs.Compiles.{AreSplit}
use Rattle.ef_front.specs.LeftOut.{is_left_out, kept, left_out_faults}
use Rattle.ef_front.proofs.Taken.{lists_more}

module _ (all : Texts) where
  kept_both : (tss uss : List (List Token)) → kept all (tss ++ uss) ≡ kept all tss ++ kept all uss
  kept_both [] uss = refl
  kept_both (ts ∷ tss) uss = go (is_left_out all ts) (kept_both tss uss)
    where
      go : (b : Bool) → kept all (tss ++ uss) ≡ kept all tss ++ kept all uss
          → cond b (kept all (tss ++ uss)) (ts ∷ kept all (tss ++ uss)) ≡ cond b (kept all tss) (ts ∷ kept all tss) ++ kept all uss
      go true rest = rest
      go false rest = ap (λ l. ts ∷ l) rest

  faults_both : (tss uss : List (List Token)) → left_out_faults all (tss ++ uss) ≡ left_out_faults all tss ++ left_out_faults all uss
  faults_both [] uss = refl
  faults_both (ts ∷ tss) uss = go (is_left_out all ts) (plain (start_of ts) table.not_built) (faults_both tss uss)
    where
      go : (b : Bool) (here : Fault) → left_out_faults all (tss ++ uss) ≡ left_out_faults all tss ++ left_out_faults all uss
          → cond b (here ∷ left_out_faults all (tss ++ uss)) (left_out_faults all (tss ++ uss)) ≡ cond b (here ∷ left_out_faults all tss) (left_out_faults all tss) ++ left_out_faults all uss
      go true here rest = ap (λ l. here ∷ l) rest
      go false here rest = rest

  -- ---- one more form

  pub split_kept : (before vs ws : List (Vec Token Global)) (ts : Vec Token Global) (old new : List Fault) → is_left_out all ts.items ≡ false → ws ≡ vs ++ ts ∷ []
      → AreSplit all (lists before) (lists vs) old new → AreSplit all (lists (before ++ ts ∷ [])) (lists ws) old new
  split_kept before vs ws ts old new is more h =
      let one : kept all (ts.items ∷ []) ≡ ts.items ∷ [] = ap (λ b. cond b (kept all []) (ts.items ∷ kept all [])) is in
      let none : left_out_faults all (ts.items ∷ []) ≡ [] = ap (λ b. cond b (plain (start_of ts.items) table.not_built ∷ []) []) is in
      let longer = lists_more before ts in
      let faults : left_out_faults all (lists before) ≡ left_out_faults all (lists (before ++ ts ∷ [])) =
      sym (ap (left_out_faults all) longer ∙ faults_both (lists before) (ts.items ∷ []) ∙ ap (λ l. left_out_faults all (lists before) ++ l) none ∙ append-nil (left_out_faults all (lists before))) in
      record {
        keeps = ap lists more ∙ lists_more vs ts ∙ ap (λ l. l ++ ts.items ∷ []) h.keeps ∙ sym (ap (kept all) longer ∙ kept_both (lists before) (ts.items ∷ []) ∙ ap (λ l. kept all (lists before) ++ l) one);
        others = λ b is. h.others b is ∙ ap (λ l. set_of (b ++ l)) faults;
      }

  pub split_out : (before vs : List (Vec Token Global)) (ts : Vec Token Global) (old mid new : List Fault) → is_left_out all ts.items ≡ true → new ≡ insert_fault (plain (start_of ts.items) table.not_built) mid
      → AreSplit all (lists before) (lists vs) old mid → AreSplit all (lists (before ++ ts ∷ [])) (lists vs) old new
  split_out before vs ts old mid new is pushed h =
      let f = plain (start_of ts.items) table.not_built in
      let none : kept all (ts.items ∷ []) ≡ [] = ap (λ b. cond b (kept all []) (ts.items ∷ kept all [])) is in
      let one : left_out_faults all (ts.items ∷ []) ≡ f ∷ [] = ap (λ b. cond b (f ∷ []) []) is in
      let longer = lists_more before ts in
      let faults : left_out_faults all (lists before) ++ f ∷ [] ≡ left_out_faults all (lists (before ++ ts ∷ [])) =
      sym (ap (left_out_faults all) longer ∙ faults_both (lists before) (ts.items ∷ []) ∙ ap (λ l. left_out_faults all (lists before) ++ l) one) in
      let added = adds_then old mid new (left_out_faults all (lists before)) (f ∷ []) h.others (adds_one mid new f pushed) in
      record {
        keeps = h.keeps ∙ sym (ap (kept all) longer ∙ kept_both (lists before) (ts.items ∷ []) ∙ ap (λ l. kept all (lists before) ++ l) none ∙ append-nil (kept all (lists before)));
        others = λ b is. added b is ∙ ap (λ l. set_of (b ++ l)) faults;
      }

  -- ---- what is kept ends with full stops

  pub kept_ends : (tss : List (List Token)) → AreForms tss → AreForms (kept all tss)
  kept_ends [] h = tt
  kept_ends (ts ∷ tss) h = go (is_left_out all ts) (kept_ends tss h.1)
    where
      go : (b : Bool) → AreForms (kept all tss) → AreForms (cond b (kept all tss) (ts ∷ kept all tss))
      go true rest = rest
      go false rest = (h.0, rest)

pub none_split : (all : Texts) (old : List Fault) → AreSplit all [] [] old old
none_split all old = record { keeps = refl; others = adds_none old }
