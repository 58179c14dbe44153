-- What `merge` answers is the verdict, where its parts keep their promises.
use Rattle.std.proofs.Common.{◌≡◌, ◌≢◌, List, refl, sym, ap, subst, ◌∙◌}
use Rattle.std.specs.Prelude.{IfErr, IfOk, IsErrAnd, IsSomeAnd, MatchOption, Option, None, Some, Ok, Err, string_bytes}
use Rattle.rn_pattern.specs.Matching.{Grammar}
use Rattle.rn_modset.specs.Contributions.{Member}
use Rattle.rn_syntax.proofs.OneReading.OneTree.{one_tree}
use Rattle.rn_assemble.specs.declared.refusal.Refusal as code
use Rattle.rn_assemble.specs.declared.refusal.Refusal.TheVariants as r
use Rattle.rn_assemble.specs.Refusal.{Refusal, Stands}
use Rattle.rn_assemble.specs.Refused.{IsFirstRefusal}
use Rattle.rn_simplify.specs.Printing.{IsPrinted, IsUnprinted}
use Rattle.rn_simplify.specs.Verdict.{Verdict, prints, refused, too_large, too_deep, IsCanonicalOfSet, IsVerdict}
use Rattle.rn_simplify.proofs.Printed.OneVerdict.{one_verdict}
use Rattle.rn_merge.specs.Verdicts.{verdict_view, Answer, answer_view, IsAnswer}

-- ---- from the parts to the answer

-- the refusal is the verdict of the set, or out of memory
abbrev pub IsRefusedAs : List Member → code.Refusal → Type 0
IsRefusedAs s q = MatchOption (verdict_view q) (q ≡ r.Memory) (IsVerdict s)

-- the first refusal of a set is its verdict
pub refused_first : (s : List Member) (q : code.Refusal) → IsFirstRefusal s q → IsRefusedAs s q
refused_first s r.OutputTooLarge h = absurd cc
refused_first s r.OutputTooDeep h = absurd cc
refused_first s q h = h

pub answered_first : (s : List Member) (answer : Answer) (q : code.Refusal) → IsErrAnd answer (λ e. e ≡ q) → IsFirstRefusal s q → IsAnswer s answer
answered_first s (Ok text) q e h = absurd e
answered_first s (Err p) q e h = subst (IsRefusedAs s) (sym e) (refused_first s q h)

unprinted : (s : List Member) (n : Grammar) (q : code.Refusal) → IsCanonicalOfSet s n → IsUnprinted n q → IsRefusedAs s q
unprinted s n r.OutputTooLarge c h = (n, c, h)
unprinted s n r.OutputTooDeep c h = (n, c, h)
unprinted s n r.Memory c h = refl
unprinted s n q c h = absurd h

pub answered : (s : List Member) (n : Grammar) (answer : Answer) → IsCanonicalOfSet s n → IfOk answer (λ text. IsPrinted n (string_bytes text)) → IfErr answer (IsUnprinted n) → IsAnswer s answer
answered s n (Ok text) c p u = (n, c, p)
answered s n (Err q) c p u = unprinted s n q c u

-- a refusal other than out of memory
pub refused_as : (s : List Member) (q : code.Refusal) → q ≢ r.Memory → IsRefusedAs s q → IsSomeAnd (verdict_view q) (IsVerdict s)
refused_as s q some h = by (verdict_view q) h
  where
    by : (o : Option Verdict) → MatchOption o (q ≡ r.Memory) (IsVerdict s) → IsSomeAnd o (IsVerdict s)
    by None e = absurd (some e)
    by (Some v) k = k

-- ---- from the answer to what follows of it

verdict_at : (s : List Member) (o : Option Verdict) → IsSomeAnd o (IsVerdict s) → (v : Verdict) × (o ≡ Some v) × IsVerdict s v
verdict_at s None h = absurd h
verdict_at s (Some v) h = (v, refl, h)

-- what a run that is done refuses is a verdict
pub verdict_of_refusal : (s : List Member) (q : code.Refusal) → IsSomeAnd (verdict_view q) (IsVerdict s) → (v : Verdict) × (verdict_view q ≡ Some v) × IsVerdict s v
verdict_of_refusal s q h = verdict_at s (verdict_view q) h

verdict_of_answer : (s : List Member) (answer : Answer) → IsAnswer s answer → answer ≢ Err r.Memory → (v : Verdict) × (answer_view answer ≡ Some v) × IsVerdict s v
verdict_of_answer s (Ok text) h some = (prints (string_bytes text), refl, h)
verdict_of_answer s (Err q) h some = verdict_of_refusal s q (refused_as s q (λ e. some (ap Err e)) h)

pub one_of_verdicts : (s : List Member) (v w : Verdict) → IsVerdict s v → IsVerdict s w → v ≡ w
one_of_verdicts = one_verdict one_tree

pub one_answer : (s : List Member) (a b : Answer) → IsAnswer s a → IsAnswer s b → a ≢ Err r.Memory → b ≢ Err r.Memory → answer_view a ≡ answer_view b
one_answer s a b h k some other =
    let (v, e, is) = verdict_of_answer s a h some in
    let (w, f, also) = verdict_of_answer s b k other in
    e ∙ ap Some (one_of_verdicts s v w is also) ∙ sym f

-- no refusal stands where the verdict is none
pub unrefused : (s : List Member) (v : Verdict) → ((q : Refusal) → v ≢ refused q) → IsVerdict s v → (q : Refusal) → ¬ Stands s q
unrefused s (refused p) other h = absurd (other p refl)
unrefused s (prints text) other (n, (g, a, c), printed) = a.0
unrefused s too_large other (n, (g, a, c), long) = a.0
unrefused s too_deep other (n, (g, a, c), deep) = a.0
