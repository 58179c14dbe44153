-- A module that is a plain file has the file's text.
use Rattle.std.proofs.Common.{◌≡◌, ℕ, ◌-◌, inl, inr, false, List, [], ◌∷◌, Option, None, All, length, refl, sym, ap, subst, ◌∙◌, arith}
use Rattle.std.specs.Prelude.{IfOk, Ok, Err, Result, slice_get, slice_range, string_bytes, unwrap_or}
use Rattle.std.specs.List.{AllByRecursion, list_any}
use Rattle.std.proofs.lemmas.Option.{slice_get_within, get_or_from_slice_get}
use Rattle.std.proofs.lemmas.List.{take_all}
use Rattle.std.proofs.lemmas.List.Elements.{All-weaker, All-from_recursion, All-get_or, All-head}
use Rattle.rn_outline.specs.Links.{targets_of}
use Rattle.rn_outline.specs.declared.file_parts.FilePart.{FilePart}
use Rattle.rn_outline.specs.declared.file_parts.FilePartKind.{FilePartKind}
use Rattle.rn_outline.specs.declared.file_parts.FilePartKind.TheVariants.{Define, Start, Reference, Parent, External, Include, Grammar}
use Rattle.rn_scopes.specs.declared.lift_fault.LiftFault.{LiftFault}
use Rattle.rn_scopes.specs.declared.input_files.Lifting.{Lifting}
use Rattle.rn_lift.specs.Edits.{edited_bytes}
use Rattle.rn_lift.specs.LiftedModules.{AreMadeOfFiles, HasModule, HasScope, IsKept, IsKeptKind, IsMadeOfFile, IsModuleOf, IsPlain, KeepsText}
use Rattle.rn_lift.specs.StandIns.{IsEdit, Modules, Scopes, StandsForKind}
use Rattle.rn_lift.specs.declared.edits.Edit.{Edit}
use Rattle.rn_lift.specs.declared.lifted.Basis.{Basis}
use Rattle.rn_lift.specs.declared.lifted.Lifted.{Lifted}
use Rattle.rn_lift.specs.declared.lifted.LiftedModule.{LiftedModule}

-- nothing stands for what is kept in the scope of the roots
no_text : (m : Modules) (s : Scopes) (start : List ℕ) (b : Basis) (named : Option ℕ) (kind : FilePartKind) (text : List ℕ) → b.scope ≡ 0 → IsKeptKind kind → StandsForKind m s start b named kind text → ⊥
no_text m s start b named (Include l a i) text z k h = k
no_text m s start b named (External l a i) text z k h = k
no_text m s start b named (Grammar number i) text z k h = k
no_text m s start b named (Parent i) text z k h = k
no_text m s start b named (Start w i j o l) text z k (inl h) = h z
no_text m s start b named (Start w i j o l) text z k (inr h) = omega (arith, k, h)
no_text m s start b named (Define w i j o l) text z k h = h z
no_text m s start b named (Reference i) text z k h = h z

no_edit : (m : Modules) (s : Scopes) (start : List ℕ) (b : Basis) (parts : List FilePart) (named : List (Option ℕ)) (e : Edit) → b.scope ≡ 0 → All IsKept parts → IsEdit m s start b parts named e → ⊥
no_edit m s start b parts named e z kept h =
    let k : IsKept h.part = subst IsKept (get_or_from_slice_get parts e.part h.part h.part h.is_part) (All-get_or IsKept parts e.part h.part (slice_get_within parts e.part h.part h.is_part) kept) in
    no_text m s start b (unwrap_or (slice_get named e.part) None) h.part.kind (string_bytes e.text) z k.1 (h.stands k.0)

no_edits : (es : List Edit) → All (λ e. ⊥) es → es ≡ []
no_edits [] h = refl
no_edits (e ∷ es) h = absurd (All-head (λ e. ⊥) e es h)

no_excepts : (parts : List FilePart) → AllByRecursion IsKept parts → list_any (λ p. p.in_except) parts ≡ false
no_excepts [] h = refl
no_excepts (p ∷ ps) h = rw (h.0.0) (no_excepts ps h.1)

whole_range : (xs : List ℕ) → slice_range xs 0 (length xs) ≡ xs
whole_range xs = take_all (length xs - 0) xs (omega arith)

kept_text : (m : Modules) (s : Scopes) (start : List ℕ) (file : Lifting) (named : List (Option ℕ)) (b : Basis) (text : List ℕ) → b.scope ≡ 0 → b.grammar ≡ 0 → IsPlain file → IsModuleOf m s start file named b text → text ≡ file.text.now
kept_text m s start file named b text z g plain h =
    let parts = file.outline.now.parts.items in
    let kept : All IsKept parts = All-from_recursion IsKept parts plain in
    let none : h.edits ≡ [] = no_edits h.edits (All-weaker (IsEdit m s start b parts named) (λ e. ⊥) (λ e i. no_edit m s start b parts named e z kept i) h.edits h.are_edits) in
    (h.whole (g, h.added_for (no_excepts parts plain))).is_text ∙ ap (λ (es : List Edit). edited_bytes file.text.now 0 (length file.text.now) es) none ∙ whole_range file.text.now

keeps : (files : List Lifting) (ms : List LiftedModule) (stems : List (List ℕ)) (start : List ℕ) (m : LiftedModule) → IsMadeOfFile files ms stems start m → KeepsText files m
keeps files ms stems start m h n file is_basis is_file plain =
    let b : Basis = record { file = n; grammar = 0; scope = 0 } in
    let w = h b is_basis in
    let same : w.0 ≡ file = cc (w.1, is_file) in
    let plain_there : IsPlain w.0 = subst IsPlain (sym same) plain in
    kept_text (HasModule ms) (HasScope ms stems) start w.0 (targets_of w.0.outline.now.parts.items w.0.targets.now) b (string_bytes m.text) refl refl plain_there w.2 ∙ ap (λ (f : Lifting). f.text.now) same

-- plain files are kept
pub kept : (files : List Lifting) (ms : List LiftedModule) (start : List ℕ) → AreMadeOfFiles files ms start → All (KeepsText files) ms
kept files ms start h = All-weaker (IsMadeOfFile files ms h.0 start) (KeepsText files) (keeps files ms h.0 start) ms h.1

pub kept_ok : (files : List Lifting) (r : Result Lifted LiftFault) → IfOk r (λ l. AreMadeOfFiles files l.modules.items (string_bytes l.start)) → IfOk r (λ l. All (KeepsText files) l.modules.items)
kept_ok files (Ok l) h = kept files l.modules.items (string_bytes l.start) h
kept_ok files (Err f) h = h
