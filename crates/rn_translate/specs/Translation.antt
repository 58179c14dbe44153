-- The tokens of the compact text of a schema in the XML syntax (RELAX NG 2001, 3 and 4; RELAX NG Compact Syntax, 3 and appendix A).
use Rattle.std.specs.Prelude.{ℕ, ◌+◌, true, false, ◌==◌, nat_le, if◌then◌else◌, List, [], ◌++◌, Option, Some, None, unwrap_or, codes}
use Rattle.rn_xml.specs.Infoset.{Attribute, Binding, Node, element, characters, Nodes, no_nodes, more_nodes}
use Rattle.rn_translate.specs.Terms.{Namespace, inherited, uri, Term}
use Rattle.rn_translate.specs.SchemaElements.{Context, kind_of, is_part, count_of, has_except, text_of, value_of, inside_of, nearest}
use Rattle.rn_translate.specs.Layouts.{Place, Written, Layout, begins, layout}
use Rattle.rn_translate.specs.declared.kinds.Kind.{Kind}
use Rattle.rn_translate.specs.declared.kinds.Kind.TheVariants as k
use Rattle.rn_translate.specs.declared.standing.Standing.{Standing}
use Rattle.rn_translate.specs.declared.standing.Standing.TheVariants as s

-- ---- children

-- how a child after so many others stands: a name class that the children begin with is alone
abbrev pub standing_of : Option (List Term) → Standing → ℕ → Standing
standing_of (Some class) standing before = if before == 0 then s.Alone else standing
standing_of None standing before = standing

-- what is before it, and what is behind it
abbrev pub before_child : Option (List Term) → List Term → ℕ → List Term
before_child (Some class) separator before = if nat_le before 1 then [] else separator
before_child None separator before = if nat_le before 0 then [] else separator

abbrev pub behind_child : Option (List Term) → ℕ → List Term
behind_child (Some class) before = if before == 0 then class else []
behind_child None before = []

-- where a child after so many others is; excepts: how many of the children are one
abbrev pub place_of : Written → Layout → ℕ → Place
place_of e l before = record {
  standing = standing_of l.class l.standing before;
  is_first = before == 0;
  is_last = nat_le e.count (before + 1 + (if e.has_except then 1 else 0));
  is_root = false;
}

-- ---- the terms

-- an element of this kind, in a schema whose default namespace is this, in this context and place
abbrev pub written : (default : Namespace) → Context → Place → Kind → List Binding → List Attribute → Nodes → Written
written default c place kind bound attributes inside = record {
  kind = kind;
  default = default;
  context = inside_of default c kind bound attributes;
  place = place;
  attributes = attributes;
  text = text_of inside;
  count = count_of inside;
  has_except = has_except inside;
}

abbrev mutual
  -- the terms of an element
  pub terms : (default : Namespace) → Context → Place → Node → List Term
  terms default c place (element n bound attributes inside) =
      let kind = unwrap_or (kind_of n) k.Foreign in
      let e = written default c place kind bound attributes inside in
      begins e kind ++ (children e (layout e kind) 0 inside ++ (layout e kind).behind)
  terms default c place (characters text) = []

  -- the terms of the children after so many others; annotations leave nothing (4.1)
  pub children : Written → Layout → ℕ → Nodes → List Term
  children e l before no_nodes = []
  children e l before (more_nodes x xs) = if is_part x
      then before_child l.class l.separator before ++ (terms e.default e.context (place_of e l before) x ++ (behind_child l.class before ++ children e l (before + 1) xs))
      else children e l before xs

-- the default namespace: the `ns` of the root
abbrev pub default_of : Node → Namespace
default_of (element n bound attributes inside) = nearest inherited (value_of (codes "ns") attributes)
default_of (characters text) = inherited

-- around the root
abbrev pub outside : Namespace → Context
outside default = record { namespace = inherited; library = uri []; scope = []; bare = default }

abbrev pub root_place : Place
root_place = record { standing = s.Alone; is_first = true; is_last = true; is_root = true }

-- the terms of a schema
abbrev pub schema_terms : Node → List Term
schema_terms root = terms (default_of root) (outside (default_of root)) root_place root
