-- What was written is the text that is answered, or says why there is none.
use Rattle.std.proofs.Common.{◌≡◌, ◌<◌, ◌≤◌, List, [], ◌∷◌, ◌++◌, length, nat_eq, true, None, refl, sym, ap, ◌∙◌, subst, arith}
use Rattle.std.specs.Prelude.{string_bytes, Result, Ok, Err, IfOk, IfErr, IsErrAnd}
use Rattle.std.proofs.Math.Dec.{eqb-suc-zero}
use Rattle.rn_text.specs.Texts.{Text}
use Rattle.rn_syntax.specs.Tree.{Module, includes}
use Rattle.rn_rng.specs.declared.lines.Writer.{Writer}
use Rattle.rn_rng.specs.declared.xml_fault.XmlFault.{XmlFault}
use Rattle.rn_rng.specs.declared.xml_fault.XmlFault.TheVariants as fault
use Rattle.rn_rng.specs.Layout.{max_xml}
use Rattle.rn_rng.specs.Written.{IsUnwritten, IsWritten, text_of}
use Rattle.rn_rng.specs.inside.Writes.{IsHindrance, Writes}

pub if_ok : {A E : Type 0} (P Q : A → Type 0) → ((x : A) → P x → Q x) → (o : Result A E) → IfOk o P → IfOk o Q
if_ok P Q f (Ok x) h = f x h
if_ok P Q f (Err e) h = tt

pub if_err : {A E : Type 0} (P Q : E → Type 0) → ((e : E) → P e → Q e) → (o : Result A E) → IfErr o P → IfErr o Q
if_err P Q f (Ok x) h = tt
if_err P Q f (Err e) h = f e h

-- an error that is handed on
pub err_from : {A : Type 0} (P : XmlFault → Type 0) (answer : Result A XmlFault) (q : XmlFault) → IsErrAnd answer (λ e. e ≡ q) → P q → IfErr answer P
err_from P (Ok x) q e h = absurd e
err_from P (Err p) q e h = subst P (sym e) h

pub has_none : (xs : List Text) → nat_eq (length xs) 0 ≡ true → xs ≡ []
has_none [] e = refl
has_none (x ∷ xs) e = absurd (let y = eqb-suc-zero (length xs) in cc)

-- a module without includes, written from nothing on
module _ (m : Module) (flat : includes m.items ≡ []) {a b : Writer} (empty : string_bytes a.text ≡ []) where
  pub written : Writes (text_of m) a b → b.stopped ≡ None → IsWritten m (string_bytes b.text)
  written w n =
      let text : string_bytes b.text ≡ text_of m = w.text n ∙ ap (λ t. t ++ text_of m) empty in
      (flat, subst (λ t. length t ≤ max_xml) text (w.within n (subst (λ t. length t ≤ max_xml) (sym empty) (omega arith))), text)

  pub unwritten : a.stopped ≡ None → Writes (text_of m) a b → (e : XmlFault) → IsHindrance b e → IsUnwritten m e
  unwritten goes w fault.TooLarge h = (flat, subst (λ t. max_xml < length (t ++ text_of m)) empty (w.too_large goes h))
  unwritten goes w fault.NoSchema h = absurd h
  unwritten goes w fault.Memory h = tt
