use Rattle.std.proofs.Common.{refl, subst}
use Rattle.ef_scan.specs.Gathered.{IsLatin}
use Rattle.ef_scan.proofs.Gathering.{gathers_comment, latin_found, latin_same, is_coding, comment_chars}
use Rattle.ef_scan.proofs.gathered.Gathered.comment.Goals as goal

pub returns-then-names_latin : goal.returns-then-names_latin
returns-then-names_latin c = λ all file parts p cs e text place h.
    let yes = c.names_latin.ensures.yes c.if-names_latin.true in
    let old = c.args.self.now in
    gathers_comment all file old _ parts p h cs e refl refl
    (latin_found file parts p c.args.place (subst (λ o. IsLatin file o parts) yes.0 h.latin)
    (is_coding file p c.args.place cs c.args.text.now e (comment_chars cs c.args.text.now c.utf8.text text) place yes.1 yes.2) place)

pub returns-else-names_latin : goal.returns-else-names_latin
returns-else-names_latin c = λ all file parts p cs e text place h.
    let old = c.args.self.now in
    gathers_comment all file old old parts p h cs e refl refl
    (latin_same file old.latin parts p c.args.place cs c.args.text.now e (comment_chars cs c.args.text.now c.utf8.text text) place
    (λ k. let yes = c.names_latin.ensures.no k in let never = c.if-names_latin.false in cc (yes, never)) h.latin)
