-- Calls that bring the same contributions leave one set, and it has one answer.
use Rattle.std.proofs.Common.{◌≡◌, ◌≢◌, true, List, [], ◌∷◌, ⊎_elim, inl, inr, refl, sym, subst, ◌∙◌}
use Rattle.std.specs.Prelude.{Err}
use Rattle.std.specs.List.{flat_map}
use Rattle.rn_text.proofs.Words.TruthValues.{same_test}
use Rattle.rn_modset.specs.Contributions.{Member}
use Rattle.rn_modset.specs.Sets.{has}
use Rattle.rn_modset.specs.Laws.{Call, after, brought}
use Rattle.rn_modset.proofs.Unions.Membership.{In, in_append, in_left, in_right, in_from_contains, contains_from_in, in_from_has, has_from_in}
use Rattle.rn_modset.proofs.Unions.UnionLaws.{call_laws}
use Rattle.rn_assemble.specs.declared.refusal.Refusal.TheVariants as r
use Rattle.rn_merge.specs.Laws.{IsLeftBy, Bring, BringAlike}
use Rattle.rn_merge.specs.Verdicts.{Answer, answer_view, IsAnswer}
use Rattle.rn_merge.proofs.Verdicts.SetVerdict.{one_answer}

in_brought : (calls : List Call) (m : Member) → In m (flat_map brought calls) → (call : Call) × In call calls × In m (brought call)
in_brought [] m h = absurd h
in_brought (c ∷ calls) m h =
    ⊎_elim (λ a. (c, inl refl, a)) (λ b. let (d, i, k) = in_brought calls m b in (d, inr i, k)) (in_append m (brought c) (flat_map brought calls) h)

brought_in : (calls : List Call) (call : Call) (m : Member) → In call calls → In m (brought call) → In m (flat_map brought calls)
brought_in [] call m i k = absurd i
brought_in (c ∷ calls) call m (inl e) k = in_left m (brought c) (flat_map brought calls) (subst (λ (d : Call). In m (brought d)) (sym e) k)
brought_in (c ∷ calls) call m (inr i) k = in_right m (brought c) (flat_map brought calls) (brought_in calls call m i k)

-- what one list of calls brings, the other does
carried : (calls others : List Call) (m : Member) → (Bring calls m → Bring others m) → has (flat_map brought calls) m ≡ true → has (flat_map brought others) m ≡ true
carried calls others m over h =
    let (call, i, k) = in_brought calls m (in_from_has (flat_map brought calls) m h) in
    let (other, j, l) = over (call, contains_from_in calls call i, contains_from_in (brought call) m k) in
    has_from_in (flat_map brought others) m (brought_in others other m (in_from_contains others other j) (in_from_contains (brought other) m l))

pub one_left : (calls others : List Call) (s t : List Member) → IsLeftBy calls s → IsLeftBy others t → BringAlike calls others → s ≡ t
one_left calls others s t e f alike =
    let same : after [] calls ≡ after [] others = call_laws.same calls others
    (λ m. same_test (has (flat_map brought calls) m) (has (flat_map brought others) m) (carried calls others m (alike m).0) (carried others calls m (alike m).1)) in
    e ∙ same ∙ sym f

pub one_answer_of_calls : (calls others : List Call) (s t : List Member) → IsLeftBy calls s → IsLeftBy others t → BringAlike calls others
    → (a b : Answer) → IsAnswer s a → IsAnswer t b → a ≢ Err r.Memory → b ≢ Err r.Memory → answer_view a ≡ answer_view b
one_answer_of_calls calls others s t e f alike a b h k some other =
    one_answer t a b (subst (λ (u : List Member). IsAnswer u a) (one_left calls others s t e f alike) h) k some other
