-- Modules that make the same of two inherited namespaces have the same components under both, and lack the same.
use Rattle.std.proofs.Common.{◌≡◌, ℕ, zero, suc, Bool, true, false, inl, inr, List, [], ◌∷◌, ◌++◌, map, Option, Some, None, refl, sym, ap, ◌∙◌, subst, arith}
use Rattle.std.specs.Prelude.{if◌then◌else◌, flat_map, bytes_eq, codes, ◌||◌, ◌&&◌, not, Contains}
use Rattle.std.specs.List.{list_any}
use Rattle.rn_text.specs.Texts.{Text}
use Rattle.rn_pattern.specs.Tree.{NameTree, ns_name, ns_name_but, any_name_but, name, name_choice, more_names, Tree, Trees, value, datum, datum_but, list, attribute, element, empty, text, one_or_more, group, interleave, choice, more_trees}
use Rattle.rn_pattern.specs.Opened.{pair}
use Rattle.rn_syntax.specs.declared.tree.Operator.{Operator}
use Rattle.rn_syntax.specs.declared.tree.Operator.TheVariants as o
use Rattle.rn_syntax.specs.declared.tree.Postfix.{Postfix}
use Rattle.rn_syntax.specs.declared.tree.Postfix.TheVariants as r
use Rattle.rn_syntax.specs.Tree as t
use Rattle.rn_syntax.specs.Tree.{AnyName, Datatype, Declaration, Item, Items, Name, NameClass, NameClasses, Pattern, Patterns, Uri}
use Rattle.rn_syntax.specs.Places.{declared_default, declared_namespace, uri_of, xml_uri}
use Rattle.rn_assemble.specs.Components.{Component, Key, NamedModule, all_components, components_within, handed_on, has_key, item_components, module_components, modules_named, name_key, start_key, without_overridden}
use Rattle.rn_assemble.specs.Refusal.{item_lacks, items_lack}
use Rattle.rn_assemble.specs.Resolve.{declared_text, default_of, every_name, every_name_but, operator_node, repetition, resolved_class, resolved_classes, resolved_name, resolved_pattern, resolved_patterns, type_library, type_name, typed_value}
use Rattle.rn_assemble.specs.inside.ContextBindings.{AgreeUnder}
use Rattle.rn_assemble.specs.inside.Lacking.{LacksWithin, handed_namespaces, item_handed_namespaces}
use Rattle.rn_assemble.specs.inside.Shared.{is_inherited}

-- ---- declarations that leave nothing to the inherited namespace

module _ (u v : Text) where
  bound_or_not : (b : Bool) (x : Text) (o : Option Uri) → declared_text u o ≡ declared_text v o → declared_text u (if b then Some (t.literal x) else o) ≡ declared_text v (if b then Some (t.literal x) else o)
  bound_or_not true x o h = refl
  bound_or_not false x o h = h

  same_prefix : (ds : List Declaration) (p : Text) → list_any is_inherited (map uri_of ds) ≡ false → declared_text u (declared_namespace ds p) ≡ declared_text v (declared_namespace ds p)
  same_prefix [] p h = refl
  same_prefix (t.namespace q i (t.literal x) ∷ ds) p h = bound_or_not (bytes_eq q p) x (declared_namespace ds p) (same_prefix ds p h)
  same_prefix (t.namespace q i t.inherited ∷ ds) p h = cc
  same_prefix (t.default i (Some q) (t.literal x) ∷ ds) p h = bound_or_not (bytes_eq q.0 p) x (declared_namespace ds p) (same_prefix ds p h)
  same_prefix (t.default i None (t.literal x) ∷ ds) p h = same_prefix ds p h
  same_prefix (t.default i q t.inherited ∷ ds) p h = cc
  same_prefix (t.datatypes q i x ∷ ds) p h = same_prefix ds p h

  same_default : (ds : List Declaration) (x : Uri) → list_any is_inherited (map uri_of ds) ≡ false → declared_default ds ≡ Some x → default_of u ds ≡ default_of v ds
  same_default [] x h e = cc
  same_default (t.default i q (t.literal y) ∷ ds) x h e = refl
  same_default (t.default i q t.inherited ∷ ds) x h e = cc
  same_default (t.namespace q i (t.literal y) ∷ ds) x h e = same_default ds x h e
  same_default (t.namespace q i t.inherited ∷ ds) x h e = cc
  same_default (t.datatypes q i y ∷ ds) x h e = same_default ds x h e

  xml_or_not : (b : Bool) (x y : Text) → x ≡ y → (if b then xml_uri else x) ≡ (if b then xml_uri else y)
  xml_or_not true x y e = refl
  xml_or_not false x y e = e

  pub agree_without : (ds : List Declaration) (x : Uri) → list_any is_inherited (map uri_of ds) ≡ false → declared_default ds ≡ Some x → AgreeUnder ds u v
  agree_without ds x h e = record {
    default = same_default ds x h e;
    prefixes = λ p. xml_or_not (bytes_eq p (codes "xml")) (declared_text u (declared_namespace ds p)) (declared_text v (declared_namespace ds p)) (same_prefix ds p h);
  }

pub agree_itself : (ds : List Declaration) (u : Text) → AgreeUnder ds u u
agree_itself ds u = record { default = refl; prefixes = λ p. refl }

pub agree_back : (ds : List Declaration) (u v : Text) → AgreeUnder ds u v → AgreeUnder ds v u
agree_back ds u v a = record { default = sym a.default; prefixes = λ p. sym (a.prefixes p) }

-- ---- what is resolved

module _ (ds : List Declaration) (u v : Text) (same : AgreeUnder ds u v) where
  same_name : (own : Text) (n : Name) → resolved_name u ds own n ≡ resolved_name v ds own n
  same_name own (t.local l) = refl
  same_name own (t.prefixed p l i) = ap (λ x. name x l) (same.prefixes p)

  same_every : (a : AnyName) → every_name u ds a ≡ every_name v ds a
  same_every t.any = refl
  same_every (t.any_of p i) = ap ns_name (same.prefixes p)

  same_every_but : (a : AnyName) (c d : NameTree) → c ≡ d → every_name_but u ds a c ≡ every_name_but v ds a d
  same_every_but t.any c d e = ap any_name_but e
  same_every_but (t.any_of p i) c d e = λ j. ns_name_but (same.prefixes p j) (e j)

  mutual
    same_class : (own : Text) (c : NameClass) → resolved_class u ds own c ≡ resolved_class v ds own c
    same_class own (t.name n) = same_name own n
    same_class own (t.all a) = same_every a
    same_class own (t.all_but a c) = same_every_but a _ _ (same_class own c)
    same_class own (t.choice cs) = ap name_choice (same_classes own cs)

    same_classes : (own : Text) (cs : NameClasses) → resolved_classes u ds own cs ≡ resolved_classes v ds own cs
    same_classes own t.no_classes = refl
    same_classes own (t.class c cs) = let first = same_class own c in let rest = same_classes own cs in λ i. more_names (first i) (rest i)

  same_library : (d : Datatype) → type_library u ds d ≡ type_library v ds d
  same_library (t.string i) = refl
  same_library (t.token i) = refl
  same_library (t.named p l i) = refl

  same_type : (d : Datatype) → type_name u ds d ≡ type_name v ds d
  same_type (t.string i) = refl
  same_type (t.token i) = refl
  same_type (t.named p l i) = refl

  same_value : (d : Option Datatype) (s : Text) → typed_value u ds d s ≡ typed_value v ds d s
  same_value None s = refl
  same_value (Some d) s = let a = same_library d in let b = same_type d in λ i. value (a i) (b i) s

  same_repetition : (s : Postfix) (p q : Tree) → p ≡ q → repetition u ds s p ≡ repetition v ds s q
  same_repetition r.Question p q e = ap (λ x. choice (pair x empty)) e
  same_repetition r.Star p q e = ap (λ x. choice (pair (one_or_more x) empty)) e
  same_repetition r.Plus p q e = ap one_or_more e

  same_operator : (op : Operator) (ps qs : Trees) → ps ≡ qs → operator_node u ds op ps ≡ operator_node v ds op qs
  same_operator o.Comma ps qs e = ap group e
  same_operator o.Ampersand ps qs e = ap interleave e
  same_operator o.Bar ps qs e = ap choice e

  mutual
    pub same_pattern : (p : Pattern) → resolved_pattern u ds p ≡ resolved_pattern v ds p
    same_pattern (t.element c p) =
        let class = ap (λ own. resolved_class u ds own c) same.default ∙ same_class (default_of v ds) c in
        let inner = same_pattern p in λ i. element (class i) (inner i)
    same_pattern (t.attribute c p) = let class = same_class [] c in let inner = same_pattern p in λ i. attribute (class i) (inner i)
    same_pattern (t.list p) = ap list (same_pattern p)
    same_pattern (t.mixed p) = ap (λ q. interleave (pair q text)) (same_pattern p)
    same_pattern t.empty = refl
    same_pattern t.not_allowed = refl
    same_pattern t.text = refl
    same_pattern (t.ref x) = refl
    same_pattern (t.value d s) = same_value d s
    same_pattern (t.datum d ps) = let a = same_library d in let b = same_type d in λ i. datum (a i) (b i) ps
    same_pattern (t.datum_but d ps j p) = let a = same_library d in let b = same_type d in let inner = same_pattern p in λ i. datum_but (a i) (b i) ps (inner i)
    same_pattern (t.repeated s p) = same_repetition s _ _ (same_pattern p)
    same_pattern (t.chain op ps) = same_operator op _ _ (same_patterns ps)

    same_patterns : (ps : Patterns) → resolved_patterns u ds ps ≡ resolved_patterns v ds ps
    same_patterns t.no_patterns = refl
    same_patterns (t.pattern p ps) = let first = same_pattern p in let rest = same_patterns ps in λ i. more_trees (first i) (rest i)

  pub same_handed : (h : Option (Text × ℕ)) → handed_on u ds h ≡ handed_on v ds h
  same_handed None = same.default
  same_handed (Some p) = same.prefixes p.0

  mutual
    item_handed : (x : Item) → item_handed_namespaces u ds x ≡ item_handed_namespaces v ds x
    item_handed (t.define x m p) = refl
    item_handed (t.start m p) = refl
    item_handed (t.div xs) = all_handed xs
    item_handed (t.include w h xs) = let one = same_handed h in let own = all_handed xs in λ i. (w, one i) ∷ own i

    all_handed : (xs : Items) → handed_namespaces u ds xs ≡ handed_namespaces v ds xs
    all_handed t.no_items = refl
    all_handed (t.item x xs) = let first = item_handed x in let rest = all_handed xs in λ i. first i ++ rest i

  module _ (f : Text → Text → List Component) where
    mutual
      item_alike : (x : Item) → item_components f u ds x ≡ item_components f v ds x
      item_alike (t.define x m p) = ap (λ b. record { key = name_key x; method = m; body = b } ∷ []) (same_pattern p)
      item_alike (t.start m p) = ap (λ b. record { key = start_key; method = m; body = b } ∷ []) (same_pattern p)
      item_alike (t.div xs) = items_alike xs
      item_alike (t.include w h xs) = let one = same_handed h in let own = items_alike xs in λ i. without_overridden (f w (one i)) (own i) ++ own i

      items_alike : (xs : Items) → all_components f u ds xs ≡ all_components f v ds xs
      items_alike t.no_items = refl
      items_alike (t.item x xs) = let first = item_alike x in let rest = items_alike xs in λ i. first i ++ rest i

    mutual
      item_lacks_alike : (x : Item) (k : Key) → item_lacks f u ds x k ≡ item_lacks f v ds x k
      item_lacks_alike (t.define x m p) k = refl
      item_lacks_alike (t.start m p) k = refl
      item_lacks_alike (t.div xs) k = items_lack_alike xs k
      item_lacks_alike (t.include w h xs) k = let one = same_handed h in let own = items_alike xs in λ i. has_key k (own i) && not (has_key k (f w (one i)))

      items_lack_alike : (xs : Items) (k : Key) → items_lack f u ds xs k ≡ items_lack f v ds xs k
      items_lack_alike t.no_items k = refl
      items_lack_alike (t.item x xs) k = let first = item_lacks_alike x k in let rest = items_lack_alike xs k in λ i. first i || rest i

-- ---- the module of a name

module _ (modules : List NamedModule) (x : Text) (m : NamedModule) (named : modules_named x modules ≡ m ∷ []) where
  pub components_alike : (depth : ℕ) (u v : Text) → AgreeUnder m.tree.declarations u v → components_within depth modules x u ≡ components_within depth modules x v
  components_alike zero u v same = refl
  components_alike (suc depth) u v same =
      let within = components_within depth modules in
      let all = λ (i : Text). flat_map (λ (k : NamedModule). module_components within i k.tree) in
      ap (all u) named ∙ ap (λ l. l ++ []) (items_alike m.tree.declarations u v same within m.tree.items) ∙ sym (ap (all v) named)

  only : (k : NamedModule) → Contains (modules_named x modules) k → m ≡ k
  only k c = first (subst (λ (ms : List NamedModule). Contains ms k) named c)
    where
      first : Contains (m ∷ []) k → m ≡ k
      first (zero, l, e) = e
      first (suc i, l, e) = absurd (omega (arith, l))

  pub lacks_alike : (depth : ℕ) (u v : Text) → AgreeUnder m.tree.declarations u v → (y : Text) (k : Key) → LacksWithin depth modules x u y k → LacksWithin depth modules x v y k
  lacks_alike zero u v same y k l = l
  lacks_alike (suc depth) u v same y k (n, there, lacks) =
      let here = subst (λ (j : NamedModule). AgreeUnder j.tree.declarations u v) (only n there) same in (
        n,
        there,
        elim lacks [
          | inl own ↦ inl (own.0, sym (items_lack_alike n.tree.declarations u v here (components_within depth modules) n.tree.items k) ∙ own.1)
          | inr further ↦ inr (further.0, subst (λ (ws : List (Text × Text)). Contains ws further.0) (all_handed n.tree.declarations u v here n.tree.items) further.1, further.2)
        ],
      )
