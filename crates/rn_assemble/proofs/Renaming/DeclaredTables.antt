-- The short texts of the URIs that modules declare are a table, and stand for all of them.
use Rattle.std.proofs.Common.{◌≡◌, ◌<◌, ◌^◌, inr, List, [], ◌∷◌, ◌++◌, length, Option, Some, None, refl, sym, ap, ◌∙◌, subst, arith, Contains}
use Rattle.std.specs.Prelude.{IfSome}
use Rattle.std.specs.List.{AllByRecursion}
use Rattle.std.specs.List.Sorted.{IsStrictlySortedBy}
use Rattle.std.specs.Option.{option_to_list}
use Rattle.std.proofs.lemmas.Cmp.{nat_list_cmp_total}
use Rattle.std.proofs.lemmas.List.{length-map}
use Rattle.std.proofs.lemmas.List.Elements.{Contains-append_left, Contains-append_right}
use Rattle.rn_text.specs.Texts.{Text, text_cmp}
use Rattle.rn_pattern.specs.Canonical.{sorted_once}
use Rattle.rn_pattern.specs.NameRules.{declarations}
use Rattle.rn_pattern.proofs.Ordered.Ascending.{climbs_sorted_once}
use Rattle.rn_pattern.proofs.Ordered.Orders.{text_same}
use Rattle.rn_pattern.proofs.Ordered.SortedMembers.{sorted_once_members}
use Rattle.rn_syntax.specs.Places.{xml_uri, xsd_uri, uri_of}
use Rattle.rn_syntax.specs.Tree.{Declaration}
use Rattle.rn_assemble.specs.Components.{NamedModule}
use Rattle.rn_assemble.specs.ShortTexts.{ShortTexts, IsTable, ShortsAscend, Stays, declared_uris, literal_text, module_uris, short_list, special_uris}
use Rattle.rn_assemble.specs.inside.Covered.{AreCovered, HasShort, IsCovered}
use Rattle.rn_assemble.proofs.Renaming.ShortLists.{has_short, shorts_ascend, special_stays, uris_listed}
use Rattle.rn_assemble.proofs.Renaming.WritableShorts.{list_writable}

module _ (ms : List NamedModule) where
  abbrev all_uris : List Text
  all_uris = special_uris ++ module_uris ms

  abbrev us : List Text
  us = sorted_once text_cmp all_uris

  abbrev es : ShortTexts
  es = short_list 0 us

  ascend : IsStrictlySortedBy text_cmp us
  ascend = climbs_sorted_once text_cmp nat_list_cmp_total text_same all_uris

  held : (u : Text) → Contains all_uris u → Contains us u
  held u = (sorted_once_members text_cmp text_same all_uris u).1

  length_listed : length us ≡ length es
  length_listed = ap length (sym (uris_listed 0 us)) ∙ length-map es (λ (e : Text × Text). e.1)

  stays : ShortsAscend es → (s : Text) → Contains special_uris s → Stays es s
  stays a s c = special_stays 0 us a s c (held s (Contains-append_left special_uris (module_uris ms) s c))

  pub declared_table : length es < 2 ^ 64 → IsTable es
  declared_table few =
      let shorts : ShortsAscend es = shorts_ascend 0 us (omega (arith, few, length_listed)) ascend in
      record {
        shorts = shorts;
        uris = subst (IsStrictlySortedBy text_cmp) (sym (uris_listed 0 us)) ascend;
        keeps = inr (record {
          none = stays shorts [] (0, omega arith, refl);
          xml = stays shorts xml_uri (1, omega arith, refl);
          xsd = stays shorts xsd_uri (2, omega arith, refl);
          declares = stays shorts declarations (3, omega arith, refl);
          writable = list_writable 0 us;
        });
      }

  -- ---- what is declared

  covered_by : (o : Option Text) → ((u : Text) → Contains (option_to_list o) u → Contains us u) → IfSome o (HasShort es)
  covered_by None h = tt
  covered_by (Some u) h = has_short 0 us u (h u (0, omega arith, refl))

  declarations_covered : (ds : List Declaration) → ((u : Text) → Contains (declared_uris ds) u → Contains us u) → AllByRecursion (IsCovered es) ds
  declarations_covered [] h = tt
  declarations_covered (d ∷ ds) h =
      let own = option_to_list (literal_text (uri_of d)) in (
        covered_by (literal_text (uri_of d)) (λ u c. h u (Contains-append_left own (declared_uris ds) u c)),
        declarations_covered ds (λ u c. h u (Contains-append_right own (declared_uris ds) u c)),
      )

  modules_covered : (ns : List NamedModule) → ((u : Text) → Contains (module_uris ns) u → Contains us u) → AreCovered es ns
  modules_covered [] h = tt
  modules_covered (n ∷ ns) h =
      let own = declared_uris n.tree.declarations in (
        declarations_covered n.tree.declarations (λ u c. h u (Contains-append_left own (module_uris ns) u c)),
        modules_covered ns (λ u c. h u (Contains-append_right own (module_uris ns) u c)),
      )

  pub declared_covered : AreCovered es ms
  declared_covered = modules_covered ms (λ u c. held u (Contains-append_right special_uris (module_uris ms) u c))
