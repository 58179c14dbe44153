-- The segments of roots, brought in one after the other.
use Rattle.std.proofs.Common.{◌≡◌, ◌⊎◌, ℕ, suc, List, [], ◌∷◌, ◌++◌, length, flat_map, refl, sym, ap, ◌∙◌, subst, append-nil}
use Rattle.std.specs.Prelude.{◌↔◌}
use Rattle.std.proofs.lemmas.List.Concat.{flat_map-append}
use Rattle.rn_text.specs.Texts.{Text}
use Rattle.rn_assemble.specs.Components.{Component, Key, NamedModule, components, has_key, instance_limit}
use Rattle.rn_assemble.specs.declared.reading.contents.Contents.{Contents}
use Rattle.rn_assemble.specs.declared.including.segments.FollowedInclude.{FollowedInclude}
use Rattle.rn_assemble.specs.declared.including.segments.Segments.{Segments}
use Rattle.rn_assemble.specs.inside.Bringing.{Brings, CanBring, IsLackIn}
use Rattle.rn_assemble.specs.inside.ContentsOf.{name_at}
use Rattle.rn_assemble.specs.inside.Lacking.{LacksFrom, LacksWithin}
use Rattle.rn_assemble.specs.inside.Segments.{AreSegmentsOf, left_from}
use Rattle.rn_assemble.proofs.Expansion.BroughtSegments.{brings_both, brings_like, brings_none}
use Rattle.rn_assemble.proofs.Expansion.IncludedLacks.{some_more, some_none}
use Rattle.rn_assemble.proofs.Expansion.IncludeOrder.{includes_apart, includes_ordered}

module _ (modules : List NamedModule) where
  -- the components of the roots of these numbers
  abbrev pub root_components : List ℕ → List Component
  root_components roots = flat_map (λ r. components modules (name_at modules r) []) roots

  abbrev RootLacks : ℕ → Text → Key → Type 0
  RootLacks n = LacksWithin (suc instance_limit) modules (name_at modules n) []

  -- from no segments, those of these roots were brought in
  pub record AreRootSegments (contents : List Contents) (now : Segments) (roots : List ℕ) : Type 0 where
    pub empty : Segments
    pub contents_is : empty.contents.now ≡ contents
    pub list_is : empty.list.items ≡ []
    pub brought_is : empty.brought.items ≡ []
    pub brings : Brings modules empty now (root_components roots) (root_components roots) (LacksFrom modules roots)

  pub roots_none : (contents : List Contents) (x : Segments) → x.contents.now ≡ contents → x.list.items ≡ [] → x.brought.items ≡ [] → CanBring modules x → AreRootSegments contents x []
  roots_none contents x same list brought can = record {
    empty = x;
    contents_is = same;
    list_is = list;
    brought_is = brought;
    brings = brings_like modules x x [] [] [] [] (λ y k. ⊥) (LacksFrom modules []) refl (λ k. refl) (λ y k. some_none RootLacks y k) (brings_none modules x can);
  }

  pub roots_more : (contents : List Contents) (now new : Segments) (roots : List ℕ) (r : ℕ) → AreRootSegments contents now roots → Brings modules now new (components modules (name_at modules r) []) (components modules (name_at modules r) []) (RootLacks r)
      → AreRootSegments contents new (roots ++ r ∷ [])
  roots_more contents now new roots r h b =
      let cs = components modules (name_at modules r) [] in
      let more : root_components roots ++ cs ≡ root_components (roots ++ r ∷ []) = sym (flat_map-append (λ n. components modules (name_at modules n) []) roots (r ∷ []) ∙ ap (λ l. root_components roots ++ l) (append-nil cs)) in
      record {
        empty = h.empty;
        contents_is = h.contents_is;
        list_is = h.list_is;
        brought_is = h.brought_is;
        brings = brings_like modules h.empty new (root_components roots ++ cs) (root_components (roots ++ r ∷ [])) (root_components roots ++ cs) (root_components (roots ++ r ∷ []))
            (λ y k. LacksFrom modules roots y k ⊎ RootLacks r y k) (LacksFrom modules (roots ++ r ∷ [])) more (λ k. ap (λ (l : List Component). has_key k l) more) (λ y k. some_more RootLacks y k roots r)
            (brings_both modules h.empty now new (root_components roots) cs (root_components roots) cs (LacksFrom modules roots) (RootLacks r) h.brings b);
      }

  module _ (contents : List Contents) (x : Segments) (roots : List ℕ) (h : AreRootSegments contents x roots) where
    followed_is : x.brought.items ≡ h.brings.followed
    followed_is = h.brings.brought_is ∙ ap (λ (l : List FollowedInclude). l ++ h.brings.followed) h.brought_is

    pub root_segments : AreSegmentsOf modules x (root_components roots)
    root_segments =
        let b = h.brings in
        let list : x.list.items ≡ b.segments = b.list_is ∙ ap (λ l. l ++ b.segments) h.list_is in
        let first : 0 ≡ length h.empty.list.items = sym (ap length h.list_is) in
        record {
          are = b.can.are;
          ordered = includes_ordered modules x.contents.now b.can.can;
          apart = includes_apart modules x.contents.now b.can.can;
          brought = b.can.brought;
          left = (λ i. left_from modules (followed_is i) (first i) (list i)) ∙ b.left;
        }

    pub root_lacks : (y : Text) (k : Key) → IsLackIn modules x.list.items x.brought.items y k ↔ LacksFrom modules roots y k
    root_lacks y k = subst (λ (l : List FollowedInclude). IsLackIn modules x.list.items l y k ↔ LacksFrom modules roots y k) (sym followed_is) (h.brings.lacks y k)
