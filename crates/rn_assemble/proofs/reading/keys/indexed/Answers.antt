use Rattle.std.proofs.Common.{◌≡◌, ◌+◌, ◌++◌, ◌∷◌, ℕ, List, [], drop, get_or, sym, ap, ◌∙◌, subst, append_assoc}
use Rattle.std.specs.Prelude.{if◌then◌else◌}
use Rattle.std.specs.Borrow.{Bor}
use Rattle.std.specs.List.Sorted.{IsStrictlySortedBy}
use Rattle.std.proofs.lemmas.List.{at_drop_more, map-append}
use Rattle.rn_text.specs.Texts.{text_cmp}
use Rattle.rn_assemble.specs.inside.Keyed.{texts_of}
use Rattle.rn_assemble.proofs.Referring.KeyNames.{new_text}
use Rattle.rn_assemble.proofs.reading.keys.indexed.Goals as goal

pub loop-at-preserved : goal.loop-at-preserved
loop-at-preserved c =
    let i = c.loop-at.at in
    let none : Bor (List ℕ) = record { ref_ptr = (0, 0); now = [] } in
    let ks = c.loop-at.found.keys in
    let x = get_or c.args.names.now i none in
    let rest = texts_of (drop (i + 1) c.args.names.now) in
    let whole : texts_of ks ++ x.now ∷ rest ≡ texts_of c.args.names.now = ap (λ ys. texts_of ks ++ ys) (sym (at_drop_more texts_of c.args.names.now i none c.loop-at-test.true)) ∙ c.loop-at.invariant.so_far in
    let fresh = new_text ks x.now rest (subst (IsStrictlySortedBy text_cmp) (sym whole) c.requires) in
    let last : c.insert.new.self.keys ≡ ks ++ x ∷ [] = c.in_ok-insert.ensures.keys ∙ ap (λ b. if b then ks else ks ++ x ∷ []) fresh in
    record {
      so_far = ap (λ ys. texts_of ys ++ rest) last ∙ ap (λ ys. ys ++ rest) (map-append (λ (s : Bor (List ℕ)). s.now) ks (x ∷ [])) ∙ append_assoc (texts_of ks) (x.now ∷ []) rest ∙ whole;
    }
