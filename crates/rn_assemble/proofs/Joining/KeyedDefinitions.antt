-- The definitions of a grammar, made key by key.
use Rattle.std.proofs.Common.{◌≡◌, inl, inr, ℕ, zero, suc, ◌+◌, ◌-◌, ◌<◌, ◌≤◌, true, false, List, [], ◌∷◌, ◌++◌, append_assoc, drop, length, length-append, get_or, map, min, take, Option, Some, None, refl, sym, ap, ◌∙◌, subst, arith}
use Rattle.std.specs.Prelude.{IfSome, IsSomeAnd, String, Vec, bytes_eq}
use Rattle.std.specs.List.{list_any}
use Rattle.std.specs.List.Sorted.{IsStrictlySortedBy}
use Rattle.std.specs.declared.alloc.Global.{Global}
use Rattle.std.proofs.lemmas.Bool.{cases_lt}
use Rattle.std.proofs.lemmas.List.{get_or-map, get_or_default, length-map, take-append-drop, take_all, take_more}
use Rattle.std.proofs.lemmas.List.Elements.{Contains-get_or}
use Rattle.rn_graph.specs.Graph.{row}
use Rattle.rn_pattern.specs.Tree.{Tree}
use Rattle.rn_graph.proofs.Graphs.BuiltRows.{row_before, row_behind}
use Rattle.rn_pattern.proofs.Ordered.InOrder.{contained_each}
use Rattle.rn_text.specs.Texts.{Text, text_cmp}
use Rattle.rn_pattern.specs.declared.tree.Pattern.{Pattern}
use Rattle.rn_assemble.specs.Combine.{AreDistinct, defined_names, joined_grammar, joined_pattern}
use Rattle.rn_assemble.specs.Components.{Component, Key, NamedModule, has_key, name_key, start_key}
use Rattle.rn_assemble.specs.DefinitionsView.{definitions_view}
use Rattle.rn_assemble.specs.Firsts.{joined_members}
use Rattle.rn_assemble.specs.Least.{IsLeast, key_cmp}
use Rattle.rn_assemble.specs.Refusal.{BreaksNameRules}
use Rattle.rn_assemble.specs.declared.reading.key_rows.WrittenComponent as code
use Rattle.rn_assemble.specs.inside.JoinedDefinitions.{AreDefinitions}
use Rattle.rn_assemble.specs.inside.Keyed.{key_at}
use Rattle.rn_assemble.specs.inside.Patterns.{lesser}
use Rattle.rn_assemble.specs.inside.ReferenceOrder.{AreDefinedKeys}
use Rattle.rn_assemble.specs.inside.Rows.{AreNameRows, AreRows, IsRowOf, KeepsRowsBut, row_at}
use Rattle.rn_assemble.specs.inside.Tied.{AreTied, HaveTied, firsts_of}
use Rattle.rn_assemble.proofs.Joining.DefinedNames.{has_defined}
use Rattle.rn_assemble.proofs.Joining.DistinctNames.{joined_distinct, new_name}
use Rattle.rn_assemble.proofs.Joining.SettlingOrders.{above_start, key_named, keys_differ, size}
use Rattle.rn_assemble.proofs.Referring.DefinitionNumbers.{nothing}
use Rattle.rn_assemble.proofs.Referring.KeyNumbers.{keyed_name, number_name, same_at}
use Rattle.rn_assemble.proofs.Referring.LeastKeys.{least_key, no_key}

-- the rows of names, where that of the start was taken
pub name_rows : (modules : List NamedModule) (names : List Text) (old new : List (Vec code.WrittenComponent Global)) → AreRows modules names old → KeepsRowsBut 0 old new → AreNameRows modules names new
name_rows modules names old new r kept = record {
  size = kept.size ∙ r.size;
  each = λ n above l. subst (IsRowOf modules (key_at names n)) (sym (kept.others n (λ e. omega (arith, above, e)))) (r.each n (omega (arith, l, kept.size)));
}

-- ---- the least number noted

lesser_both : (P : ℕ → Type 0) (n m : ℕ) → P n → P m → P (min n m)
lesser_both P n m a b = elim (cases_lt n m) [
  | inl l ↦ subst P (let e : n ≡ min n m = omega (arith, l) in e) a
  | inr g ↦ subst P (let e : m ≡ min n m = omega (arith, g) in e) b
]

lesser_all : (P : ℕ → Type 0) (n : ℕ) (least : Option ℕ) → P n → IfSome least P → IfSome (lesser n least) P
lesser_all P n None a h = a
lesser_all P n (Some m) a h = lesser_both P n m a h

lesser_kept : (n j : ℕ) (least : Option ℕ) → IsSomeAnd least (λ m. m ≤ j) → IsSomeAnd (lesser n least) (λ m. m ≤ j)
lesser_kept n j None h = absurd h
lesser_kept n j (Some m) h = let l : min n m ≤ j = omega (arith, h) in l

lesser_here : (n : ℕ) (least : Option ℕ) → IsSomeAnd (lesser n least) (λ m. m ≤ n)
lesser_here n None = omega arith
lesser_here n (Some m) = let l : min n m ≤ n = omega arith in l

lesser_some : (n : ℕ) (least : Option ℕ) → lesser n least ≡ None → ⊥
lesser_some n least e = cc

module _ (names : List Text) (cs : List Component) (keys : List ℕ) where
  abbrev key_of : ℕ → ℕ
  key_of i = get_or keys i 0

  -- the definitions of the keys before the index are made or noted, with the first places of their members; the rows of the others are what they were
  pub record Defining (first now : List (Vec code.WrittenComponent Global)) (least : Option ℕ) (ds : List (Text × Tree)) (rows : List (List ℕ)) (i : ℕ) : Type 0 where
    pub made : least ≡ None → ds ≡ take i (joined_grammar cs).definitions
    pub size : least ≡ None → length rows ≡ i
    pub tied : least ≡ None → (j : ℕ) → j < i → AreTied (row rows j) (joined_members (get_or (joined_grammar cs).definitions j nothing).1)
    pub noted : (j : ℕ) → j < i → BreaksNameRules cs (key_at names (key_of j)) → IsSomeAnd least (λ m. m ≤ key_of j)
    pub breaks : IfSome least (λ m. (m < suc (length names)) × BreaksNameRules cs (key_at names m))
    pub left : (j : ℕ) → i ≤ j → j < length keys → row_at now (key_of j) ≡ row_at first (key_of j)

  module _ (defined : AreDefinedKeys names cs keys) where
    abbrev definition : Text → Text × Tree
    definition x = (x, joined_pattern cs (name_key x))

    -- what is known of the key at an index
    pub key_within : (i : ℕ) → i < length keys → key_of i < suc (length names)
    key_within i l = contained_each (λ k. k < suc (length names)) keys defined.within (key_of i) (Contains-get_or keys i 0 l)

    abbrev name_of : ℕ → Text
    name_of i = get_or (defined_names cs) i []

    pub count : length (defined_names cs) ≡ length keys
    count = sym (size names cs keys defined ∙ length-map (defined_names cs) definition)

    definition_at : (i : ℕ) → i < length keys → get_or (joined_grammar cs).definitions i nothing ≡ (name_of i, joined_pattern cs (name_key (name_of i)))
    definition_at i l = get_or-map definition (defined_names cs) i [] nothing (omega (arith, l, count))

    pub key_is : (i : ℕ) → i < length keys → key_at names (key_of i) ≡ name_key (name_of i)
    key_is i l = key_named names cs keys defined i l ∙ ap (λ (d : Text × Tree). name_key d.0) (definition_at i l)

    pub key_above : (i : ℕ) → i < length keys → 0 < key_of i
    key_above i l = above_start names (name_of i) (key_of i) (key_is i l)

    -- the name of a key
    pub key_name : (i : ℕ) → i < length keys → get_or names (key_of i - 1) [] ≡ name_of i
    key_name i l = keyed_name (get_or names (key_of i - 1) []) (name_of i) (sym (number_name names (key_of i) (key_above i l)) ∙ key_is i l)

    -- the number of a key that has components
    pub numbered : (k : Key) → has_key k cs ≡ true → (m : ℕ) × (m < suc (length names)) × (k ≡ key_at names m)
    numbered start_key t = (0, omega arith, refl)
    numbered (name_key x) t =
        let at = has_defined x cs t in
        let within : at.0 < length keys = omega (arith, at.1, count) in
        (key_of at.0, key_within at.0 within, sym (key_is at.0 within ∙ ap name_key at.2))

    -- the row of the key at an index
    pub row_left : (modules : List NamedModule) (first now : List (Vec code.WrittenComponent Global)) (least : Option ℕ) (ds : List (Text × Tree)) (rows : List (List ℕ)) (i : ℕ) → i < length keys → AreNameRows modules names first
        → Defining first now least ds rows i → IsRowOf modules (key_at names (key_of i)) (row_at now (key_of i))
    row_left modules first now least ds rows i l r h =
        subst (IsRowOf modules (key_at names (key_of i))) (sym (h.left i (omega arith) l)) (r.each (key_of i) (key_above i l) (omega (arith, key_within i l, r.size)))

    module _ (first now : List (Vec code.WrittenComponent Global)) (least : Option ℕ) (ds : List (Text × Tree)) (rows : List (List ℕ)) (i : ℕ) (l : i < length keys) (h : Defining first now least ds rows i) where
      abbrev key : ℕ
      key = key_of i

      others_left : (then : List (Vec code.WrittenComponent Global)) → KeepsRowsBut key now then → (j : ℕ) → i + 1 ≤ j → j < length keys → row_at then (key_of j) ≡ row_at first (key_of j)
      others_left then kept j g m =
          kept.others (key_of j) (λ e. keys_differ names cs keys defined i j (omega (arith, g)) m (sym e)) ∙ h.left j (omega (arith, g)) m

      earlier_or_here : (P : ℕ → Type 0) → ((j : ℕ) → j < i → P j) → P i → (j : ℕ) → j < i + 1 → P j
      earlier_or_here P f p j m = elim (cases_lt j i) [ inl earlier ↦ f j earlier | inr late ↦ subst P (let e : i ≡ j = omega (arith, m, late) in e) p ]

      -- the name of the key is that of no definition so far, and with its own there are those of one key more
      new_here : least ≡ None → (x : Text) → x ≡ name_of i → list_any (bytes_eq x) (map (λ (d : Text × Tree). d.0) ds) ≡ false
      new_here none x is =
          let made = (joined_grammar cs).definitions in
          let within : i < length made = omega (arith, l, size names cs keys defined) in
          let parted : made ≡ take i made ++ get_or made i nothing ∷ drop (i + 1) made =
          sym (take-append-drop (i + 1) made) ∙ ap (λ ds. ds ++ drop (i + 1) made) (take_more made i nothing within) ∙ append_assoc (take i made) (get_or made i nothing ∷ []) (drop (i + 1) made) in
          let new = new_name (take i made) (get_or made i nothing) (drop (i + 1) made) (subst AreDistinct parted (joined_distinct cs)) in
          subst (λ es. list_any (bytes_eq x) (map (λ (d : Text × Tree). d.0) es) ≡ false) (sym (h.made none))
          (subst (λ y. list_any (bytes_eq y) (map (λ (d : Text × Tree). d.0) (take i made)) ≡ false) (ap (λ (d : Text × Tree). d.0) (definition_at i l) ∙ sym is) new)

      -- the key has a pattern, which is added with its name
      pub defining_more : (then : List (Vec code.WrittenComponent Global)) (ds' : List (Text × Tree)) (rows' : List (List ℕ)) (v : List ℕ) (x : Text) (t : Tree) → x ≡ name_of i → t ≡ joined_pattern cs (key_at names key) → ¬ BreaksNameRules cs (key_at names key)
          → KeepsRowsBut key now then → (list_any (bytes_eq x) (map (λ (d : Text × Tree). d.0) ds) ≡ false → ds' ≡ ds ++ (x, t) ∷ []) → rows' ≡ rows ++ v ∷ [] → AreTied v (joined_members (joined_pattern cs (key_at names key)))
          → Defining first then least ds' rows' (i + 1)
      defining_more then ds' rows' v x t is here keeps kept put row_put tied =
          let made = (joined_grammar cs).definitions in
          let within : i < length made = omega (arith, l, size names cs keys defined) in
          let body : t ≡ joined_pattern cs (name_key (name_of i)) = here ∙ ap (joined_pattern cs) (key_is i l) in
          let of_name : joined_pattern cs (key_at names key) ≡ (get_or made i nothing).1 = ap (joined_pattern cs) (key_is i l) ∙ ap (λ (d : Text × Tree). d.1) (sym (definition_at i l)) in
          let is_made : ◌≡◌ {A = Text × Tree} (x, t) (get_or made i nothing) = (λ k. (is k, body k)) ∙ sym (definition_at i l) in
          record {
            made = λ none. put (new_here none x is) ∙ (λ k. h.made none k ++ is_made k ∷ []) ∙ sym (take_more made i nothing within);
            size = λ none. ap length row_put ∙ length-append rows (v ∷ []) ∙ ap (λ n. n + 1) (h.size none);
            tied = λ none. earlier_or_here (λ j. AreTied (row rows' j) (joined_members (get_or made j nothing).1))
                (λ j m. subst (λ r. AreTied r (joined_members (get_or made j nothing).1)) (sym (row_before rows rows' v j row_put (omega (arith, m, h.size none)))) (h.tied none j m))
                (subst (λ r. AreTied r (joined_members (get_or made i nothing).1)) (sym (ap (row rows') (sym (h.size none)) ∙ row_behind rows rows' v row_put)) (subst (λ u. AreTied v (joined_members u)) of_name tied));
            noted = earlier_or_here (λ j. BreaksNameRules cs (key_at names (key_of j)) → IsSomeAnd least (λ m. m ≤ key_of j)) h.noted (λ b. absurd (keeps b));
            breaks = h.breaks;
            left = others_left then kept;
          }

      -- it breaks the restrictions on name classes, and is noted
      pub defining_noted : (then : List (Vec code.WrittenComponent Global)) → BreaksNameRules cs (key_at names key) → KeepsRowsBut key now then → Defining first then (lesser key least) ds rows (i + 1)
      defining_noted then breaks kept = record {
        made = λ none. absurd (lesser_some key least none);
        size = λ none. absurd (lesser_some key least none);
        tied = λ none. absurd (lesser_some key least none);
        noted = earlier_or_here (λ j. BreaksNameRules cs (key_at names (key_of j)) → IsSomeAnd (lesser key least) (λ m. m ≤ key_of j)) (λ j m b. lesser_kept key (key_of j) least (h.noted j m b)) (λ b. lesser_here key least);
        breaks = lesser_all (λ m. (m < suc (length names)) × BreaksNameRules cs (key_at names m)) key least (key_within i l, breaks) h.breaks;
        left = others_left then kept;
      }

-- ---- behind the last key

module _ (names : List Text) (cs : List Component) (o : IsStrictlySortedBy text_cmp names) (keys : List ℕ) (defined : AreDefinedKeys names cs keys) where
  -- the least number of a key that breaks the restrictions is that of the least such key
  pub least_broken : (n : ℕ) → n < suc (length names) → BreaksNameRules cs (key_at names n) → ((m : ℕ) → m < n → ¬ BreaksNameRules cs (key_at names m)) → IsLeast key_cmp (BreaksNameRules cs) (key_at names n)
  least_broken n l b before = least_key names o (BreaksNameRules cs) (λ k c. numbered names cs keys defined k c.0) n (l, b, before)

  module _ (start_keeps : ¬ BreaksNameRules cs start_key) (first now : List (Vec code.WrittenComponent Global)) (ds : List (Text × Tree)) (firsts : List (Vec ℕ Global)) (i : ℕ) (past : length keys ≤ i) where
    abbrev Ends : Option ℕ → Type 0
    Ends least = Defining names cs keys first now least ds (firsts_of firsts) i

    noted_before : (least : Option ℕ) → Ends least → (m : ℕ) → m < suc (length names) → BreaksNameRules cs (key_at names m) → IsSomeAnd least (λ j. j ≤ m)
    noted_before least h zero l b = absurd (start_keeps b)
    noted_before least h (suc n) l b =
        let x = get_or names n [] in
        let at = has_defined x cs b.0 in
        let j = at.0 in
        let within : j < length keys = omega (arith, at.1, count names cs keys defined) in
        let same : get_or keys j 0 ≡ suc n = same_at names o (get_or keys j 0) (suc n) (key_within names cs keys defined j within) l (key_is names cs keys defined j within ∙ ap name_key at.2) in
        subst (λ k. IsSomeAnd least (λ m. m ≤ k)) same (h.noted j (omega (arith, within, past)) (subst (λ k. BreaksNameRules cs (key_at names k)) (sym same) b))

    -- all names are defined where none was noted
    pub defining_ends : (least : Option ℕ) (entries : List (String Global × Pattern)) → Ends least → least ≡ None → definitions_view entries ≡ ds → AreDefinitions cs entries firsts
    defining_ends least entries h none is =
        let made = (joined_grammar cs).definitions in
        let all : length made ≤ i = omega (arith, past, size names cs keys defined) in
        let are : definitions_view entries ≡ made = is ∙ h.made none ∙ take_all i made all in
        record {
          are = are;
          tied = subst (HaveTied (firsts_of firsts)) (sym are) (λ n d l. subst (λ (e : Text × Tree). AreTied (row (firsts_of firsts) n) (joined_members e.1)) (get_or_default made n nothing d l) (h.tied none n (omega (arith, l, all))));
          keep = no_key names o (BreaksNameRules cs) (λ k c. numbered names cs keys defined k c.0) (λ m l b. subst (λ s. IsSomeAnd s (λ j. j ≤ m)) none (noted_before least h m l b));
        }

    -- the noted key is the least
    pub noted_least : (n : ℕ) → Ends (Some n) → IsLeast key_cmp (BreaksNameRules cs) (key_at names n)
    noted_least n h =
        least_broken n h.breaks.0 h.breaks.1
        (λ k below b. let upto : n ≤ k = noted_before (Some n) h k (omega (arith, below, h.breaks.0)) b in omega (arith, upto, below))
