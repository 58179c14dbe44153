-- What was written is the text that is answered, or says why there is none.
use Rattle.std.proofs.Common.{◌≡◌, ◌<◌, ◌≤◌, Bool, true, false, cond, [], ◌++◌, length, Some, None, sym, ap, ◌∙◌, subst, arith}
use Rattle.std.specs.Prelude.{string_bytes, is_some, not, option_and_then, Result, Ok, Err, IfOk, IfErr}
use Rattle.rn_pattern.specs.Matching.{Grammar}
use Rattle.rn_assemble.specs.declared.refusal.Refusal.{Refusal}
use Rattle.rn_assemble.specs.declared.refusal.Refusal.TheVariants as r
use Rattle.rn_simplify.specs.declared.writer.Writer.{Writer}
use Rattle.rn_simplify.specs.Spelling.{spelling_pieces, spelling}
use Rattle.rn_simplify.specs.ReadBack.{is_too_deep}
use Rattle.rn_simplify.specs.Printing.{IsPrinted, IsUnprinted}
use Rattle.rn_simplify.specs.inside.Writes.{bytes_of, depth_after, depth_of, IsHindrance, max_text, Writes}
use Rattle.rn_simplify.proofs.Texts.OpenAtOnce.{shown}

pub if_ok : {A E : Type 0} (P Q : A → Type 0) → ((x : A) → P x → Q x) → (o : Result A E) → IfOk o P → IfOk o Q
if_ok P Q f (Ok x) h = f x h
if_ok P Q f (Err e) h = tt

pub if_err : {A E : Type 0} (P Q : E → Type 0) → ((e : E) → P e → Q e) → (o : Result A E) → IfErr o P → IfErr o Q
if_err P Q f (Ok x) h = tt
if_err P Q f (Err e) h = f e h

-- written from nothing on
module _ (g : Grammar) {a b : Writer} (empty : string_bytes a.text ≡ []) (outside : a.depth ≡ 0) (shallow : a.too_deep ≡ false) (goes : a.stopped ≡ None) (w : Writes (spelling_pieces g) a b) where
  text : b.stopped ≡ None → string_bytes b.text ≡ spelling g
  text n = (w.appends n).text ∙ ap (λ t. t ++ bytes_of (spelling_pieces g)) empty

  short : b.stopped ≡ None → length (spelling g) ≤ 4194304
  short n = subst (λ t. length t ≤ max_text) (text n) (w.within n (subst (λ t. length t ≤ max_text) (sym empty) (omega arith)))

  depth : b.stopped ≡ None → depth_of b ≡ depth_after (spelling_pieces g) 0
  depth n = (w.appends n).depth ∙ ap (option_and_then (depth_after (spelling_pieces g))) (λ i. cond (shallow i) None (Some (outside i)))

  deep : (d : Bool) → b.too_deep ≡ d → b.stopped ≡ None → is_too_deep g ≡ d
  deep true e n = shown (spelling_pieces g) ∙ ap (λ o. not (is_some o)) (sym (depth n)) ∙ ap (λ d. not (is_some (cond d None (Some b.depth)))) e
  deep false e n = shown (spelling_pieces g) ∙ ap (λ o. not (is_some o)) (sym (depth n)) ∙ ap (λ d. not (is_some (cond d None (Some b.depth)))) e

  pub printed : b.stopped ≡ None → b.too_deep ≡ false → IsPrinted g (string_bytes b.text)
  printed n s = (short n, deep false s n, text n)

  pub unprinted : (e : Refusal) → IsHindrance b e → IsUnprinted g e
  unprinted r.OutputTooLarge h = subst (λ t. max_text < length (t ++ bytes_of (spelling_pieces g))) empty (w.too_large goes h)
  unprinted r.OutputTooDeep h = (short h.0, deep true h.1 h.0)
  unprinted r.Memory h = tt
  unprinted e h = absurd h
