-- Values of attributes that are none.
use Rattle.std.proofs.Common.{◌≡◌, ◌≢◌, ℕ, true, false, List, [], ◌∷◌, ◌++◌, refl, sym, ap, ◌∙◌, subst, arith}
use Rattle.std.specs.Prelude.{◌==◌}
use Rattle.std.proofs.lemmas.Bool.{true≢false}
use Rattle.std.proofs.lemmas.Bool.Decides.{nat_tests}
use Rattle.rn_text.specs.Segments.{is_delimiter}
use Rattle.rn_text.proofs.Words.EqualLists.{cons_first, cons_rest}
use Rattle.rn_xml.specs.XmlCharacters.{lines_of, IsReference, IsValue}
use Rattle.rn_xml.specs.XmlCharacters as x
use Rattle.rn_xml.specs.inside.Fronts.{LeavesValue}
use Rattle.rn_xml.proofs.Refusals.OneReading.References.{body_of, reference_once}
use Rattle.rn_xml.proofs.Refusals.OneReading.Values.{reference_step, step_is, step_of}
use Rattle.rn_xml.proofs.Sources.{lines_step, normal_cases}

no_cons : (c : ℕ) (cs : List ℕ) → [] ≢ c ∷ cs
no_cons c cs e = cc

pub no_value_left : (quote : ℕ) (cs value rest : List ℕ) → cs ≡ [] → ¬ IsValue quote cs value rest
no_value_left quote cs value rest none x.IsValue.close = no_cons quote rest (sym none)
no_value_left quote cs value rest none (x.IsValue.itself {c = c} {cs = ds} v h) = no_cons c ds (sym none)
no_value_left quote cs value rest none (x.IsValue.white {c = c} {cs = ds} w h) = no_cons c ds (sym none)
no_value_left quote cs value rest none (x.IsValue.reference {c = c} {mid = m} r h) = let b = body_of cs c m r in no_cons 38 (b.body ++ 59 ∷ m) (sym none ∙ b.is)

pub leaves_itself : (quote : ℕ) (cs : List ℕ) → LeavesValue quote cs cs
leaves_itself quote cs value after h = (value, h)

pub leaves_more : (quote : ℕ) (cs rest behind : List ℕ) → LeavesValue quote cs rest → LeavesValue quote rest behind → LeavesValue quote cs behind
leaves_more quote cs rest behind far step value after h = let first = far value after h in step first.0 after first.1

-- behind a reference
pub leaves_reference : (quote : ℕ) (cs : List ℕ) (c : ℕ) (mid : List ℕ) → is_delimiter quote ≡ true → IsReference cs c mid → LeavesValue quote cs mid
leaves_reference quote cs c mid d r value after (x.IsValue.reference {c = b} {mid = m} {value = w} r2 h) = (w, subst (λ l. IsValue quote l w after) (sym (reference_once cs cs c b mid m r r2 refl).1) h)
leaves_reference quote cs c mid d r value after k =
    let same : step_of k ≡ 1 = sym (step_is quote cs value after d k) ∙ reference_step quote cs c mid d r in
    absurd (omega arith)

-- behind another character than the quote
pub leaves_first : (quote : ℕ) (cs : List ℕ) (e : ℕ) (ds : List ℕ) → cs ≡ e ∷ ds → e ≢ quote → e ≢ 38 → LeavesValue quote cs ds
leaves_first quote cs e ds is apart plain value after x.IsValue.close = absurd (apart (sym (cons_first is)))
leaves_first quote cs e ds is apart plain value after (x.IsValue.itself {value = w} v h) = (w, subst (λ l. IsValue quote l w after) (cons_rest is) h)
leaves_first quote cs e ds is apart plain value after (x.IsValue.white {value = w} u h) = (w, subst (λ l. IsValue quote l w after) (cons_rest is) h)
leaves_first quote cs e ds is apart plain value after (x.IsValue.reference {c = c} {mid = m} r h) = absurd (plain (sym (cons_first (sym (body_of cs c m r).is ∙ is))))

pub leaves_character : (quote c : ℕ) (cs after : List ℕ) → is_delimiter quote ≡ true → cs ≡ c ∷ after → c ≢ quote → c ≢ 38 → LeavesValue quote (lines_of cs) (lines_of after)
leaves_character quote c cs after d first apart plain =
    subst (λ l. LeavesValue quote l (lines_of after)) (sym (ap lines_of first ∙ lines_step c after))
    (normal_cases (λ n. LeavesValue quote (n ++ lines_of after) (lines_of after)) c after (λ r f. leaves_itself quote (lines_of after))
    (leaves_first quote (10 ∷ lines_of after) 10 (lines_of after) refl (feed quote d) (λ e. true≢false (ap (λ n. n == 10) e)))
    (leaves_first quote (c ∷ lines_of after) c (lines_of after) refl apart plain))
  where
    feed : (q : ℕ) → is_delimiter q ≡ true → 10 ≢ q
    feed q d e = grind (arith, nat_tests)
