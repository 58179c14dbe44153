-- What follows of the verdict of a set: of its text, and of a refusal.
use Rattle.std.proofs.Common.{◌≡◌, ◌∷◌, [], List, refl, subst, sym}
use Rattle.std.specs.Prelude.{IfErr, IfOk, IsErrAnd, IsSomeAnd, MatchOption, Ok, Err, Option, None, Some, string_bytes}
use Rattle.rn_text.specs.Texts.{Text}
use Rattle.rn_pattern.specs.Matching.{Grammar}
use Rattle.rn_pattern.specs.Reached.{IsCanonicalOf}
use Rattle.rn_modset.specs.Contributions.{Member}
use Rattle.rn_syntax.proofs.OneReading.OneTree.{one_tree}
use Rattle.rn_assemble.specs.declared.refusal.Refusal as code
use Rattle.rn_assemble.specs.declared.refusal.Refusal.TheVariants as r
use Rattle.rn_assemble.specs.Renamed.{IsOfKnownUris}
use Rattle.rn_assemble.specs.ShortTexts.{IsKnown, IsShortened, ShortTexts, long_grammar, long_uri}
use Rattle.rn_assemble.proofs.Renaming.ShortTables.{table_renames}
use Rattle.rn_simplify.specs.Printing.{IsPrinted, IsUnprinted}
use Rattle.rn_simplify.specs.Verdict.{IsVerdict, Verdict, prints, too_large, too_deep}
use Rattle.rn_simplify.proofs.Printed.PrintedAgain.{printed_again}
use Rattle.rn_simplify.proofs.Printed.PrintedSets.{printed_read}
use Rattle.rn_simplify.proofs.Renaming.CanonicalGrammars.{canonical_renamed}
use Rattle.rn_simplify.proofs.Renaming.KnownUris.{known_canonical}
use Rattle.rn_merge.specs.Schemas.{IsSchemaOfSet, RefusesFirst}
use Rattle.rn_merge.specs.Verdicts.{Answer, IsAnswer, verdict_view}
use Rattle.rn_merge.proofs.Verdicts.LoneContributions.{effective_alone}
use Rattle.rn_merge.proofs.Verdicts.Clashes.{plain_once, one_method}
use Rattle.rn_merge.proofs.Verdicts.SetVerdict.{answered, IsRefusedAs, unrefused}

pub schema : (s : List Member) (text : Text) → IsVerdict s (prints text) → IsSchemaOfSet s text
schema s text h =
    let none = unrefused s (prints text) (λ q. λ k. cc) h in
    record {
      verdict = h;
      documents = printed_read s text h;
      unrefused = none;
      plain_once = λ modules are. plain_once s modules are none;
      one_method = λ modules are. one_method s modules are none;
      again = printed_again one_tree s text h;
      alone = λ name revision. printed_again one_tree s text h (record { name = name; revision = revision; text = Some text } ∷ []) name (effective_alone name revision text);
    }

-- what is answered is the schema
pub answered_schema : (s : List Member) (answer : Answer) → IsAnswer s answer → IfOk answer (λ text. IsSchemaOfSet s (string_bytes text))
answered_schema s (Ok text) h = schema s (string_bytes text) h
answered_schema s (Err q) h = tt

pub refuses_first : (s : List Member) (q : code.Refusal) → IsRefusedAs s q → RefusesFirst s q
refuses_first s r.OutputTooLarge h = λ some. unrefused s too_large (λ q. λ k. cc) h
refuses_first s r.OutputTooDeep h = λ some. unrefused s too_deep (λ q. λ k. cc) h
refuses_first s r.Memory h = λ some. absurd (some refl)
refuses_first s q h = h

as_refused : (s : List Member) (q : code.Refusal) (o : Option Verdict) → IsSomeAnd o (IsVerdict s) → MatchOption o (q ≡ r.Memory) (IsVerdict s)
as_refused s q None h = absurd h
as_refused s q (Some v) h = h

-- a refusal that is the verdict is the first
pub verdict_refuses_first : (s : List Member) (q : code.Refusal) → IsSomeAnd (verdict_view q) (IsVerdict s) → RefusesFirst s q
verdict_refuses_first s q h = refuses_first s q (as_refused s q (verdict_view q) h)

-- what is answered in the place of a schema is the first refusal
pub answered_refusal : (s : List Member) (answer : Answer) → IsAnswer s answer → IfErr answer (RefusesFirst s)
answered_refusal s (Ok text) h = tt
answered_refusal s (Err q) h = refuses_first s q h

-- what is printed, with its URIs, of the canonical grammar that has short texts in their place is the set's
module _ (s : List Member) (es : ShortTexts) (G N : Grammar) (h : IsShortened s es G) (c : IsCanonicalOf G N) where
  pub printed_known : IsOfKnownUris (IsKnown es) N
  printed_known = known_canonical (IsKnown es) G N h.known c

  long_canonical : IsCanonicalOf (long_grammar es G) (long_grammar es N)
  long_canonical = canonical_renamed (long_uri es) (IsKnown es) (table_renames es h.table) G N h.known c

  module _ (answer : Answer) (ok : IfOk answer (λ text. IsPrinted (long_grammar es N) (string_bytes text))) (err : IfErr answer (IsUnprinted (long_grammar es N))) where
    pub printed_answer : IsAnswer s answer
    printed_answer = answered s (long_grammar es N) answer (long_grammar es G, h.assembled, long_canonical) ok err

    pub printed_schema : IfOk answer (λ text. IsSchemaOfSet s (string_bytes text))
    printed_schema = answered_schema s answer printed_answer

    pub printed_refusal : IfErr answer (RefusesFirst s)
    printed_refusal = answered_refusal s answer printed_answer

-- want of memory says nothing
pub lacking : (s : List Member) (answer : Answer) → IsErrAnd answer (λ q. q ≡ r.Memory) → IfErr answer (RefusesFirst s)
lacking s (Ok text) h = tt
lacking s (Err q) h = subst (RefusesFirst s) (sym h) (λ some. absurd (some refl))
