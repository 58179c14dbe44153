-- Where all rules together are broken nowhere, none is.
use Rattle.std.proofs.Common.{◌≡◌, ℕ, Bool, true, false, not, List, [], ◌∷◌, ◌++◌, Option, Some, None, refl, ap, ◌∙◌}
use Rattle.rn_syntax.specs.Tree as t
use Rattle.rn_syntax.specs.Tree.{NameClass, Datatype, Params, Pattern, Patterns, Declaration, Item, Items, Module}
use Rattle.rn_syntax.specs.Places.{first, place_if, pattern_places, patterns_places, item_places, items_places, class_places, unbound_type, wrong_builtin, context_value, inherit_places, is_allowed, declarations_places}
use Rattle.rn_text.specs.Texts.{Text}
use Rattle.rn_syntax.specs.Faults.{HasNoFault}
use Rattle.rn_syntax.proofs.FaultPlaces.FaultKinds.{no_fault as none_of_kinds}
use Rattle.rn_syntax.proofs.Lists.EmptyLists.{nil_parts, both_nil}
use Rattle.rn_syntax.proofs.FaultPlaces.FirstPlaces.{none_first}

nothing_first : (xs : List ℕ) → first xs ≡ None → xs ≡ []
nothing_first [] e = refl
nothing_first (x ∷ xs) e = cc

-- places of rules on name classes, datatypes, excepts and inherited prefixes: where those of c, d, e and i are none, those of the others are none
module _ (c k : NameClass → List ℕ) (d f : Bool → Datatype → Params → List ℕ) (e g : ℕ → Pattern → List ℕ) (i j : Option (Text × ℕ) → List ℕ)
    (ck : (x : NameClass) → c x ≡ [] → k x ≡ []) (df : (v : Bool) (x : Datatype) (ps : Params) → d v x ps ≡ [] → f v x ps ≡ [])
    (eg : (n : ℕ) (p : Pattern) → e n p ≡ [] → g n p ≡ []) (ij : (o : Option (Text × ℕ)) → i o ≡ [] → j o ≡ []) where
  mutual
    kept_pattern : (p : Pattern) → pattern_places c d e p ≡ [] → pattern_places k f g p ≡ []
    kept_pattern (t.element n p) h = let both = nil_parts (c n) (pattern_places c d e p) h in both_nil _ _ (ck n both.0) (kept_pattern p both.1)
    kept_pattern (t.attribute n p) h = let both = nil_parts (c n) (pattern_places c d e p) h in both_nil _ _ (ck n both.0) (kept_pattern p both.1)
    kept_pattern (t.list p) h = kept_pattern p h
    kept_pattern (t.mixed p) h = kept_pattern p h
    kept_pattern t.empty h = refl
    kept_pattern t.not_allowed h = refl
    kept_pattern t.text h = refl
    kept_pattern (t.ref n) h = refl
    kept_pattern (t.value None s) h = refl
    kept_pattern (t.value (Some x) s) h = df true x [] h
    kept_pattern (t.datum x ps) h = df false x ps h
    kept_pattern (t.datum_but x ps n p) h =
        let both = nil_parts (d false x ps ++ e n p) (pattern_places c d e p) h in
        let front = nil_parts (d false x ps) (e n p) both.0 in
        both_nil _ _ (both_nil _ _ (df false x ps front.0) (eg n p front.1)) (kept_pattern p both.1)
    kept_pattern (t.repeated s p) h = kept_pattern p h
    kept_pattern (t.chain op ps) h = kept_patterns ps h

    kept_patterns : (ps : Patterns) → patterns_places c d e ps ≡ [] → patterns_places k f g ps ≡ []
    kept_patterns t.no_patterns h = refl
    kept_patterns (t.pattern p ps) h = let both = nil_parts (pattern_places c d e p) (patterns_places c d e ps) h in both_nil _ _ (kept_pattern p both.0) (kept_patterns ps both.1)

  mutual
    kept_item : (x : Item) → item_places c d e i x ≡ [] → item_places k f g j x ≡ []
    kept_item (t.define n w p) h = kept_pattern p h
    kept_item (t.start w p) h = kept_pattern p h
    kept_item (t.div xs) h = kept_items xs h
    kept_item (t.include s o xs) h = let both = nil_parts (i o) (items_places c d e i xs) h in both_nil _ _ (ij o both.0) (kept_items xs both.1)

    kept_items : (xs : Items) → items_places c d e i xs ≡ [] → items_places k f g j xs ≡ []
    kept_items t.no_items h = refl
    kept_items (t.item x xs) h = let both = nil_parts (item_places c d e i x) (items_places c d e i xs) h in both_nil _ _ (kept_item x both.0) (kept_items xs both.1)

abbrev types : List Declaration → Bool → Datatype → Params → List ℕ
types ds v x ps = (unbound_type ds v x ps ++ wrong_builtin ds v x ps) ++ context_value ds v x ps

abbrev excepts : ℕ → Pattern → List ℕ
excepts n p = place_if (not (is_allowed p)) n

-- where items break a rule
abbrev pub all_places : List Declaration → Items → List ℕ
all_places ds xs = items_places (class_places ds) (λ v x ps. (unbound_type ds v x ps ++ wrong_builtin ds v x ps) ++ context_value ds v x ps) (λ n p. place_if (not (is_allowed p)) n) (inherit_places ds) xs

pub no_fault : (m : Module) → first (declarations_places [] m.declarations) ≡ None
    → first (all_places m.declarations m.items) ≡ None
    → HasNoFault m
no_fault m declared h =
    let ds = m.declarations in
    let none = nothing_first (items_places (class_places ds) (types ds) excepts (inherit_places ds) m.items) h in
    let unbound = λ (v : Bool) (x : Datatype) (ps : Params) (e : types ds v x ps ≡ []). (nil_parts _ _ (nil_parts (unbound_type ds v x ps ++ wrong_builtin ds v x ps) _ e).0).0 in
    let builtin = λ (v : Bool) (x : Datatype) (ps : Params) (e : types ds v x ps ≡ []). (nil_parts (unbound_type ds v x ps) (wrong_builtin ds v x ps) (nil_parts (unbound_type ds v x ps ++ wrong_builtin ds v x ps) _ e).0).1 in
    let context = λ (v : Bool) (x : Datatype) (ps : Params) (e : types ds v x ps ≡ []). (nil_parts (unbound_type ds v x ps ++ wrong_builtin ds v x ps) _ e).1 in
    none_of_kinds
    m
    (none_first (declarations_places [] ds) _ declared ∙ ap first (kept_items (class_places ds) (class_places ds) (types ds) (unbound_type ds) excepts (λ _ _. []) (inherit_places ds) (inherit_places ds) (λ x z. z) unbound (λ n p z. refl) (λ o z. z) m.items none))
    (ap first (kept_items (class_places ds) (λ _. []) (types ds) (wrong_builtin ds) excepts (λ _ _. []) (inherit_places ds) (λ _. []) (λ x z. refl) builtin (λ n p z. refl) (λ o z. refl) m.items none))
    (ap first (kept_items (class_places ds) (λ _. []) (types ds) (context_value ds) excepts (λ _ _. []) (inherit_places ds) (λ _. []) (λ x z. refl) context (λ n p z. refl) (λ o z. refl) m.items none))
    (ap first (kept_items (class_places ds) (λ _. []) (types ds) (λ _ _ _. []) excepts excepts (inherit_places ds) (λ _. []) (λ x z. refl) (λ v x ps z. refl) (λ n p z. z) (λ o z. refl) m.items none))
