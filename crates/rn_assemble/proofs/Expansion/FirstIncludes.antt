-- The rows of modules, one after the other, and the first refusal of an include.
use Rattle.std.proofs.Common.{◌≡◌, ⊎_elim, ℕ, suc, ◌+◌, ◌<◌, List, [], ◌∷◌, ◌++◌, length, get_or, map, Some, None, refl, sym, ap, ◌∙◌, subst, arith, below_more, Less}
use Rattle.std.specs.Prelude.{Contains, sum_by}
use Rattle.std.specs.List.Sorted.{IsStrictlySortedBy}
use Rattle.std.proofs.lemmas.Bool.{cases_order}
use Rattle.std.proofs.lemmas.List.{get_or-map, length-map, length_push}
use Rattle.rn_text.specs.Texts.{Text, text_cmp}
use Rattle.rn_graph.specs.Graph.{AllBelow, row}
use Rattle.rn_graph.specs.Ranks.{HasNoLoop, IsFirstLoop}
use Rattle.rn_pattern.proofs.Ordered.InOrder.{text_no_less}
use Rattle.rn_graph.proofs.Graphs.BuiltRows.{AreRows, is_graph, no_rows, row_before, row_behind, rows_pushed}
use Rattle.rn_syntax.specs.View.{module_view}
use Rattle.rn_assemble.specs.declared.reading.named_modules.NamedModule as code
use Rattle.rn_assemble.specs.Components.{Includes, NamedModule, instance_limit, instances_within, roots, included_by}
use Rattle.rn_syntax.specs.Tree.{includes}
use Rattle.rn_assemble.specs.inside.ContentsOf.{name_at}
use Rattle.rn_assemble.specs.inside.Included.{AreIncluded}
use Rattle.rn_assemble.specs.inside.Inclusions.{AreInclusions, IsLeastAmong, IsMissing, entries}
use Rattle.rn_assemble.specs.inside.Instances.{instances_of}
use Rattle.rn_assemble.specs.Refusal.{IsFirstFor, Refusal, StandsFor, Wants, conflict, cycle, faulty, missing, rank, too_many_instances}
use Rattle.rn_assemble.specs.inside.Views.{module_names, named_module_view, modules_view}
use Rattle.rn_assemble.proofs.Expansion.RootNumbers.{entries_below, entries_named}
use Rattle.rn_assemble.proofs.Expansion.Inclusions.{first_cycle, include_stands, included_at, includer, no_cycle, none_missing, not_missing, rise, stands_include, total}
use Rattle.rn_assemble.proofs.Referring.NamedLists.{unmapped}
use Rattle.rn_assemble.proofs.Referring.KeyNumbers.{not_itself}
use Rattle.rn_assemble.proofs.Expansion.WantedNumbers.{found_all, names_rise, numbers}

module _ (xs : List code.NamedModule) where
  abbrev ms : List NamedModule
  ms = modules_view xs

  -- the rows of the modules before a place
  pub record AreBegun (k : ℕ) (rows : List (List ℕ)) : Type 0 where
    pub long : length rows ≡ k
    pub below : AreRows (length xs) rows
    pub named : (i : ℕ) → i < k → map (name_at ms) (row rows i) ≡ included_by ms (name_at ms i)

  module _ (in_order : IsStrictlySortedBy text_cmp (module_names xs)) where
    size : length ms ≡ length xs
    size = length-map xs named_module_view

    o : IsStrictlySortedBy text_cmp (map (λ (m : NamedModule). m.name) ms)
    o = names_rise xs in_order

    -- the name of the module at a place, and what it includes
    view_at : (i : ℕ) (s : code.NamedModule) → i < length xs → s ≡ get_or xs i s → get_or ms i (named_module_view s) ≡ named_module_view s
    view_at i s l e = get_or-map named_module_view xs i s (named_module_view s) l ∙ ap named_module_view (sym e)

    pub name_seen : (i : ℕ) (s : code.NamedModule) → i < length xs → s ≡ get_or xs i s → name_at ms i ≡ s.name.now
    name_seen i s l e = get_or-map (λ (m : NamedModule). m.name) ms i (named_module_view s) [] (omega (arith, l, size)) ∙ ap (λ (m : NamedModule). m.name) (view_at i s l e)

    included_seen : (i : ℕ) (s : code.NamedModule) → i < length xs → s ≡ get_or xs i s → included_by ms (name_at ms i) ≡ includes (module_view s.tree).items
    included_seen i s l e = included_at ms o i (named_module_view s) (omega (arith, l, size)) ∙ ap (λ (m : NamedModule). includes m.tree.items) (view_at i s l e)

    pub begins : (rows : List (List ℕ)) → rows ≡ [] → AreBegun 0 rows
    begins rows e = subst (AreBegun 0) (sym e) (record { long = refl; below = no_rows (length xs); named = λ i l. absurd (omega (arith, l)) })

    pub goes_on : (k : ℕ) (rows rows' : List (List ℕ)) (v : List ℕ) (s : code.NamedModule) (texts : List Text) → k < length xs → s ≡ get_or xs k s → AreBegun k rows → rows' ≡ rows ++ v ∷ []
        → texts ≡ includes (module_view s.tree).items → IsLeastAmong (IsMissing ms) texts None → v ≡ numbers ms texts → AreBegun (k + 1) rows'
    goes_on k rows rows' v s texts l at b e are none is =
        let found = found_all ms texts none in
        let last : row rows' k ≡ v = ap (row rows') (sym b.long) ∙ row_behind rows rows' v e in
        record {
          long = omega (arith, ap length e, length_push rows v, b.long);
          below = rows_pushed (length xs) rows rows' v b.below (subst (AllBelow (length xs)) (sym is) (subst (λ n. AllBelow n (numbers ms texts)) size found.0)) e;
          named = below_more (λ i. map (name_at ms) (row rows' i) ≡ included_by ms (name_at ms i)) k
              (λ i lt. ap (map (name_at ms)) (row_before rows rows' v i e (omega (arith, lt, b.long))) ∙ b.named i lt)
              (ap (map (name_at ms)) (last ∙ is) ∙ found.1 ∙ are ∙ sym (included_seen k s l at));
        }

    pub ends : (k : ℕ) (rows : List (List ℕ)) → k ≡ length xs → AreBegun k rows → AreInclusions ms rows
    ends k rows e b = record {
      size = b.long ∙ e ∙ sym size;
      graph = is_graph (length xs) rows b.below (b.long ∙ e);
      named = λ i l. b.named i (omega (arith, l, size, e));
    }

    -- ---- an include of no module

    module _ (k : ℕ) (rows : List (List ℕ)) (s : code.NamedModule) (texts : List Text) (w : Text) (l : k < length xs) (at : s ≡ get_or xs k s) (b : AreBegun k rows) (are : texts ≡ includes (module_view s.tree).items) (h : IsLeastAmong (IsMissing ms) texts (Some w)) where
      x : name_at ms k ≡ s.name.now
      x = name_seen k s l at

      stands : texts ≡ included_by ms s.name.now
      stands = are ∙ sym (included_seen k s l at) ∙ ap (included_by ms) x

      to : (v : Text) → Contains texts v → Includes ms s.name.now v
      to v c = stands_include ms s.name.now v (subst (λ zs. Contains zs v) stands c)

      from : (v : Text) → Includes ms s.name.now v → Contains texts v
      from v c = subst (λ zs. Contains zs v) (sym stands) (include_stands ms s.name.now v c)

      -- no module before wants one that is missing
      before : (i : ℕ) (y v : Text) → i < k → name_at ms i ≡ y → ¬ Wants ms y v
      before i y v lt e q =
          let among : Contains (map (name_at ms) (row rows i)) v = subst (λ zs. Contains zs v) (sym (b.named i lt ∙ ap (included_by ms) e)) (include_stands ms y v q.0) in
          let j = unmapped (name_at ms) (row rows i) v among in
          not_missing ms o j.0 v (omega (arith, b.below i j.0 j.1, size)) j.2 q.1

      least : (y v : Text) → Wants ms y v → ¬ (text_cmp y s.name.now ≡ Less)
      least y v q less =
          let i = includer ms y v q.0 in ⊎_elim
          (λ e. not_itself s.name.now (subst (λ z. text_cmp z s.name.now ≡ Less) (sym i.2 ∙ ap (name_at ms) e ∙ x) less))
          (⊎_elim (λ lt. before i.0 y v lt i.2 q) (λ gt. text_no_less s.name.now y (subst (λ z. text_cmp z y ≡ Less) x (subst (λ z. text_cmp (name_at ms k) z ≡ Less) i.2 (rise ms o k i.0 gt i.1))) less))
          (cases_order i.0 k)

      none_lower : (q : Refusal) → rank q < 2 → ¬ StandsFor ms q
      none_lower (conflict y n) lt h = h
      none_lower (faulty f y) lt h = h
      none_lower q lt h = absurd (omega (arith, lt))

      pub first_missing : IsFirstFor ms (missing s.name.now w)
      first_missing = (
        (
          record { holds = (w, (to w h.holds.0, h.holds.1)); least = λ y q. least y q.0 q.1 },
          record { holds = (to w h.holds.0, h.holds.1); least = λ v q. h.least v (from v q.0, q.1) },
        ),
        none_lower,
      )

    -- ---- modules that come back to themselves, and too many instances

    module _ (rows : List (List ℕ)) (h : AreInclusions ms rows) where
      few_lower : (q : Refusal) → rank q < 3 → ¬ StandsFor ms q
      few_lower (conflict y n) lt s = s
      few_lower (faulty f y) lt s = s
      few_lower (missing y v) lt s = none_missing ms o rows h y v s.1.holds
      few_lower q lt s = absurd (omega (arith, lt))

      pub first_loop : (i : ℕ) → i < length xs → IsFirstLoop rows i → IsFirstFor ms (cycle (name_at ms i))
      first_loop i l f = (first_cycle ms o rows h i (omega (arith, l, size)) f, few_lower)

      module _ (loop_free : HasNoLoop rows) where
        some_lower : (q : Refusal) → rank q < 4 → ¬ StandsFor ms q
        some_lower (conflict y n) lt s = s
        some_lower (faulty f y) lt s = s
        some_lower (missing y v) lt s = none_missing ms o rows h y v s.1.holds
        some_lower (cycle y) lt s = no_cycle ms o rows h loop_free y s.holds
        some_lower q lt s = absurd (omega (arith, lt))

        all_instances : (depth : ℕ) → sum_by (instances_of depth rows) (entries rows) ≡ sum_by (λ (m : NamedModule). instances_within depth ms m.name) (roots ms)
        all_instances depth = total ms o rows h depth (entries rows) (subst (λ n. AllBelow n (entries rows)) h.size (entries_below rows)) (entries_named ms o rows h)

        pub too_many : ((depth : ℕ) → instance_limit < depth → instance_limit < sum_by (instances_of depth rows) (entries rows)) → IsFirstFor ms too_many_instances
        too_many f = (subst (λ n. instance_limit < n) (all_instances (suc instance_limit)) (f (suc instance_limit) (omega arith)), some_lower)

        pub all_included : ((depth : ℕ) → instance_limit < depth → ¬ (instance_limit < sum_by (instances_of depth rows) (entries rows))) → AreIncluded ms (entries rows)
        all_included f = record {
          none_missing = none_missing ms o rows h;
          no_cycle = no_cycle ms o rows h loop_free;
          few = λ l. f (suc instance_limit) (omega arith) (subst (λ n. instance_limit < n) (sym (all_instances (suc instance_limit))) l);
          within = subst (λ n. AllBelow n (entries rows)) h.size (entries_below rows);
          are = entries_named ms o rows h;
        }
