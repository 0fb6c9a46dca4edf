use Rattle.std.proofs.Common.{◌≡◌, ◌≢◌, ◌-◌, ◌++◌, ℕ, List, Bool, true, false, if◌then◌else◌, take, drop, length, codes, refl, sym, ap, ◌∙◌}
use Rattle.std.specs.Str.{bytes_eq}
use Rattle.std.proofs.lemmas.Slice.Eq.{bytes_eq-Decides}
use Rattle.std.proofs.lemmas.List.{take-append-drop}
use Rattle.ef_front.proofs.job.stem.Goals as goal

none : (path : List ℕ) (b : Bool) → b ≡ bytes_eq (drop (length path - 4) path) (codes ".erl") → ((front : List ℕ) → path ≢ front ++ codes ".erl") → path ≡ (if b then take (length path - 4) path else path)
none path false is lacks = refl
none path true is lacks =
    let last : drop (length path - 4) path ≡ codes ".erl" = (bytes_eq-Decides (drop (length path - 4) path) (codes ".erl")).0 (sym is) in
    absurd (lacks (take (length path - 4) path) (sym (take-append-drop (length path - 4) path) ∙ ap (λ t. take (length path - 4) path ++ t) last))

pub returns-in-None : goal.returns-in-None
returns-in-None c = none c.args.path.now (bytes_eq (drop (length c.args.path.now - 4) c.args.path.now) (codes ".erl")) refl c.in-None.ensures.cases
