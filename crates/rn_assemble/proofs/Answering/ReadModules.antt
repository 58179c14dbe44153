-- Modules whose texts are read in the order of their names: all of them, or the first that is faulty.
use Rattle.std.proofs.Common.{◌≡◌, ◌≢◌, ℕ, zero, suc, ◌<◌, List, [], ◌∷◌, ◌++◌, length, get_or, take, map, Option, Some, None, MatchOption, Bor, refl, sym, ap, ◌∙◌, subst, ⊎_elim, arith, Contains, Less}
use Rattle.std.specs.List.{AllByRecursion, AllZip}
use Rattle.std.specs.List.Sorted.{IsStrictlySortedBy}
use Rattle.std.proofs.lemmas.List.{get_or-map, length-map, take-map}
use Rattle.rn_text.specs.Texts.{Text, text_cmp}
use Rattle.rn_pattern.proofs.Ordered.InOrder.{contains_cases, contained_each, text_no_less}
use Rattle.rn_modset.specs.Contributions.{Member}
use Rattle.rn_modset.specs.Modules.{Module, AreEffective, NamesRise, module_cmp, module_of, modules_of}
use Rattle.rn_syntax.specs.declared.fault.FaultKind.{FaultKind}
use Rattle.rn_assemble.specs.declared.reading.named_modules.NamedModule as code_module
use Rattle.rn_assemble.specs.declared.refusal.Refusal as code
use Rattle.rn_assemble.specs.Components.{NamedModule}
use Rattle.rn_assemble.specs.Least.{IsLeast}
use Rattle.rn_assemble.specs.inside.ModuleTexts.{IsRead, IsFaultOf}
use Rattle.rn_assemble.specs.Refusal.{Refusal, conflict, faulty, rank, HasTextFault, IsFirstFault, IsFaulty, IsModuleOf, AreModules, Stands, IsFirst}
use Rattle.rn_assemble.specs.Refused.{IsFirstRefusal, refusal_view}
use Rattle.rn_assemble.specs.inside.Views.{module_names, named_module_view, modules_view}
use Rattle.rn_assemble.proofs.Referring.NamedLists.{in_order_mapped}

-- the text has no fault
abbrev pub HasFaultlessText : Module → Type 0
HasFaultlessText x = (f : FaultKind) → ¬ HasTextFault x.1 f

-- the module was read from this name and text
abbrev pub IsReadFrom : Module → NamedModule → Type 0
IsReadFrom x m = (m.name ≡ x.0) × IsRead x.1 m.tree

-- ---- all are read

all_faultless : (texts : List Module) (modules : List NamedModule) → AllZip IsReadFrom texts modules → AllByRecursion HasFaultlessText texts
all_faultless [] modules h = tt
all_faultless (x ∷ texts) [] h = absurd h
all_faultless (x ∷ texts) (m ∷ modules) h = (h.0.1.faultless, all_faultless texts modules h.1)

all_modules : (texts : List Module) (modules : List NamedModule) → AllZip IsReadFrom texts modules → AllZip (λ (x : Module) (m : NamedModule). (m.name ≡ x.0) × IsModuleOf x.1 m.tree) texts modules
all_modules [] [] h = tt
all_modules [] (m ∷ modules) h = absurd h
all_modules (x ∷ texts) [] h = absurd h
all_modules (x ∷ texts) (m ∷ modules) h = ((h.0.0, h.0.1.is_module), all_modules texts modules h.1)

none_faulty : (texts : List Module) → AllByRecursion HasFaultlessText texts → (x : Text) → ¬ IsFaulty texts x
none_faulty texts all x (text, inside, (f, has)) = contained_each HasFaultlessText texts all (x, text) inside f has

are_modules : (s : List Member) (texts : List Module) (modules : List NamedModule) → AreEffective s texts → AllZip IsReadFrom texts modules → AreModules s modules
are_modules s texts modules effective read = record {
  texts = texts;
  are_effective = effective;
  faultless = none_faulty texts (all_faultless texts modules read);
  trees = all_modules texts modules read;
}

-- ---- the first that is faulty

no_less : (t x y : Text) → t ≡ x → text_cmp t y ≡ Less → text_cmp y x ≢ Less
no_less t x y same above less = text_no_less t y above (subst (λ (z : Text). text_cmp y z ≡ Less) (sym same) less)

least_faulty : (texts : List Module) → NamesRise texts → (n : ℕ) (x : Module) → n < length texts → x ≡ get_or texts n x → AllByRecursion HasFaultlessText (take n texts) → (y : Text) → IsFaulty texts y → text_cmp y x.0 ≢ Less
unfolding IsStrictlySortedBy
least_faulty [] rise n x l is before y wrong less = absurd (omega (arith, l))
least_faulty (t ∷ texts) rise zero x l is before y (text, inside, wrong) less =
    let at : t.0 ≡ x.0 = sym (ap (λ (p : Module). p.0) is) in
    ⊎_elim
    (λ same. let here : y ≡ x.0 = sym (ap (λ (p : Module). p.0) same) ∙ at in let itself : text_cmp x.0 x.0 ≡ Less = subst (λ (z : Text). text_cmp z x.0 ≡ Less) here less in text_no_less x.0 x.0 itself itself)
    (λ behind. no_less t.0 x.0 y at (contained_each (λ (p : Module). module_cmp t p ≡ Less) texts rise.0 (y, text) behind) less)
    (contains_cases t (y, text) texts inside)
least_faulty (t ∷ texts) rise (suc n) x l is before y (text, inside, (f, has)) less = ⊎_elim
    (λ same. before.0 f (subst (λ (p : Module). HasTextFault p.1 f) (sym same) has))
    (λ behind. least_faulty texts rise.1 n x (omega (arith, l)) is before.1 y (text, behind, (f, has)) less)
    (contains_cases t (y, text) texts inside)

module _ (s : List Member) (texts : List Module) (effective : AreEffective s texts) where
  no_conflict : (q : Refusal) → rank q < 1 → ¬ Stands s q
  no_conflict (conflict x r) l h = effective.agreed x r h.0
  no_conflict q l h = absurd (omega (arith, l))

  module _ (n : ℕ) (x : Module) (l : n < length texts) (is : x ≡ get_or texts n x) (before : AllByRecursion HasFaultlessText (take n texts)) where
    first_faulty : (f : FaultKind) → IsFirstFault x.1 f → IsFirst s (faulty f x.0)
    first_faulty f first =
        let inside : Contains {X = Module} texts x = (n, l, sym is) in
        let least : IsLeast text_cmp (IsFaulty texts) x.0 = record { holds = (x.1, inside, (f, first.0)); least = least_faulty texts effective.in_order n x l is before } in
        ((texts, effective, least, (x.1, inside, first)), no_conflict)

    refused_by : (o : Option Refusal) (M : Type 0) → MatchOption o M (λ w. (f : FaultKind) × (w ≡ faulty f x.0) × IsFirstFault x.1 f) → MatchOption o M (IsFirst s)
    refused_by None M h = h
    refused_by (Some w) M (f, e, first) = subst (IsFirst s) (sym e) (first_faulty f first)

    text_refused : (q : code.Refusal) → IsFaultOf x.0 x.1 q → IsFirstRefusal s q
    text_refused q h = refused_by (refusal_view q) _ h

-- ---- in a loop over names and texts

abbrev Lent : Type 0
Lent = Bor (List ℕ) × Bor (List ℕ)

-- the modules were read from the names and texts that the loop has met
abbrev pub AreReadFrom : List (Bor Lent) → List code_module.NamedModule → Type 0
AreReadFrom met modules = AllZip IsReadFrom (modules_of (map (λ (y : Bor Lent). y.now) met)) (modules_view modules)

pub read_more : (met : List (Bor Lent)) (modules : List code_module.NamedModule) (y : Bor Lent) (m : code_module.NamedModule) → AreReadFrom met modules → IsReadFrom (module_of y.now) (named_module_view m) → AreReadFrom (met ++ y ∷ []) (modules ++ m ∷ [])
read_more [] [] y m h r = (r, tt)
read_more [] (k ∷ modules) y m h r = absurd h
read_more (z ∷ met) [] y m h r = absurd h
read_more (z ∷ met) (k ∷ modules) y m h r = (h.0, read_more met modules y m h.1 r)

names_read : (texts : List Module) (modules : List code_module.NamedModule) → AllZip IsReadFrom texts (modules_view modules) → module_names modules ≡ map (λ (x : Module). x.0) texts
names_read [] [] h = refl
names_read [] (m ∷ modules) h = absurd h
names_read (x ∷ texts) [] h = absurd h
names_read (x ∷ texts) (m ∷ modules) h = let first = h.0.0 in let rest = names_read texts modules h.1 in λ i. first i ∷ rest i

module _ (s : List Member) (texts : List Module) (effective : AreEffective s texts) (all : List Lent) (same : modules_of all ≡ texts) (met : List (Bor Lent)) (modules : List code_module.NamedModule) (read : AreReadFrom met modules) where
  module _ (whole : map (λ (y : Bor Lent). y.now) met ≡ all) where
    all_read : AllZip IsReadFrom texts (modules_view modules)
    all_read = subst (λ (ms : List Module). AllZip IsReadFrom ms (modules_view modules)) (ap modules_of whole ∙ same) read

    pub all_met : AreModules s (modules_view modules)
    all_met = are_modules s texts (modules_view modules) effective all_read

    pub all_in_order : IsStrictlySortedBy text_cmp (module_names modules)
    all_in_order = subst (IsStrictlySortedBy text_cmp) (sym (names_read texts modules all_read)) (in_order_mapped (λ (x : Module). x.0) texts effective.in_order)

  pub met_refused : map (λ (y : Bor Lent). y.now) met ≡ take (length met) all → (y : Lent) → (length met < length all) × (y ≡ get_or all (length met) y) → (q : code.Refusal) → IsFaultOf y.0.now y.1.now q → IsFirstRefusal s q
  met_refused so_far y (l, is) q h =
      let n = length met in
      let x = module_of y in
      let inside : n < length texts = omega (arith, l, length-map all module_of, ap length same) in
      let here : x ≡ get_or texts n x = ap module_of is ∙ sym (get_or-map module_of all n y x l) ∙ ap (λ (ms : List Module). get_or ms n x) same in
      let front : modules_of (map (λ (z : Bor Lent). z.now) met) ≡ take n texts = ap modules_of so_far ∙ sym (take-map module_of n all) ∙ ap (take n) same in
      text_refused s texts effective n x inside here (subst (λ (ms : List Module). AllByRecursion HasFaultlessText ms) front (all_faultless _ (modules_view modules) read)) q h
