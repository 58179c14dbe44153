-- When two nodes are equal, and what is hashed of one.
use Rattle.std.specs.Prelude.{◌≡◌, ℕ, Bool, true, false, ◌&&◌, List, [], ◌++◌, map, flat_map, nat_eq, IsTrue, slice_index_or, take, cond, option_to_list, string_bytes}
use Rattle.std.specs.Bool.{Decides}
use Rattle.std.specs.Ordering.{on}
use Rattle.std.specs.Cmp.{IsEquivalence, decided, on_equiv, first_so, second_so, unsigned_Decides}
use Rattle.std.specs.Cmp.Lexicographic.{pointwise, pointwise_decides, bytes_decides}
use Rattle.std.specs.Hash as fed
use Rattle.std.specs.Rc.{rc_str_bytes}
use Rattle.std.proofs.Common.{refl, ap, subst, sym, ◌∙◌}
use Rattle.std.proofs.lemmas.Bool.{and_from}
use Rattle.std.proofs.lemmas.List.{append-nil, append_assoc}
use Rattle.rn_pattern.specs.Tree as tree
use Rattle.rn_pattern.specs.Tree.{Parameters, Tree, NameTree, NameTrees, any_name, any_name_but, ns_name, ns_name_but, name, name_choice, no_names, more_names}
use Rattle.rn_text.specs.Texts.{Text}
use Rattle.rn_pattern.specs.View.{name_class_view, parameters_view}
use Rattle.rn_pattern.specs.Nodes.{node_members}
use Rattle.rn_pattern.specs.inside.Stored.{node_rank, node_texts, node_parameters, node_class, tree_at}
use Rattle.rn_pattern.specs.inside.Shown.{class_view}
use Rattle.rn_pattern.specs.declared.node.Node.{Node}
use Rattle.rn_pattern.specs.declared.node.NodeId.{NodeId}

abbrev pub same_text : Text → Text → Bool
same_text = pointwise nat_eq

abbrev mutual
  pub same_name : NameTree → NameTree → Bool
  same_name any_name any_name = true
  same_name (any_name_but c) (any_name_but d) = same_name c d
  same_name (ns_name u) (ns_name v) = same_text u v
  same_name (ns_name_but u c) (ns_name_but v d) = same_text u v && same_name c d
  same_name (name u l) (name v m) = same_text u v && same_text l m
  same_name (name_choice cs) (name_choice ds) = same_names cs ds
  same_name c d = false

  pub same_names : NameTrees → NameTrees → Bool
  same_names no_names no_names = true
  same_names (more_names c cs) (more_names d ds) = same_name c d && same_names cs ds
  same_names cs ds = false

-- the parts of a node, by which nodes are told apart: the kind, the texts, the parameters, the name class and the ids
abbrev pub NodeParts : Type 0
NodeParts = ℕ × List Text × Parameters × NameTrees × List ℕ

abbrev pub node_parts : Node NodeId → NodeParts
node_parts n = (node_rank n, node_texts n, parameters_view (node_parameters n), class_view (node_class n), map (λ i. i.0) (node_members n))

abbrev pub same_parameter : Text × Text → Text × Text → Bool
same_parameter x y = same_text x.0 y.0 && same_text x.1 y.1

abbrev pub same_parts : NodeParts → NodeParts → Bool
same_parts x y = nat_eq x.0 y.0 && (pointwise same_text x.1 y.1 && (pointwise same_parameter x.2 y.2 && (same_names x.3 y.3 && pointwise nat_eq x.4 y.4)))

abbrev pub node_eq : Node NodeId → Node NodeId → Bool
node_eq = on node_parts same_parts

-- the test of two numbers decides whether they are equal
pub number_decides : (x y : ℕ) → Decides (nat_eq x y) (x ≡ y)
number_decides x y = unsigned_Decides x y

-- equal ids stand for one tree
pub tree_at-same : (ts : List Tree) (i j : NodeId) → IsTrue (nat_eq i.0 j.0) → tree_at ts i ≡ tree_at ts j
tree_at-same ts i j h = ap (λ k. slice_index_or ts k tree.not_allowed) ((number_decides i.0 j.0).0 h)

pub text_decides : (s t : Text) → Decides (same_text s t) (s ≡ t)
text_decides = bytes_decides

mutual
  name_sound : (c d : NameTree) → same_name c d ≡ true → c ≡ d
  name_sound any_name any_name h = refl
  name_sound (any_name_but c) (any_name_but d) h = ap any_name_but (name_sound c d h)
  name_sound (ns_name u) (ns_name v) h = ap ns_name ((text_decides u v).0 h)
  name_sound (ns_name_but u c) (ns_name_but v d) h =
      let e : u ≡ v = (text_decides u v).0 (first_so (same_text u v) (same_name c d) h) in
      let f : c ≡ d = name_sound c d (second_so (same_text u v) (same_name c d) h) in
      λ i. ns_name_but (e i) (f i)
  name_sound (name u l) (name v m) h =
      let e : u ≡ v = (text_decides u v).0 (first_so (same_text u v) (same_text l m) h) in
      let f : l ≡ m = (text_decides l m).0 (second_so (same_text u v) (same_text l m) h) in
      λ i. name (e i) (f i)
  name_sound (name_choice cs) (name_choice ds) h = ap name_choice (names_sound cs ds h)
  name_sound c d h = cc

  names_sound : (cs ds : NameTrees) → same_names cs ds ≡ true → cs ≡ ds
  names_sound no_names no_names h = refl
  names_sound (more_names c cs) (more_names d ds) h =
      let e : c ≡ d = name_sound c d (first_so (same_name c d) (same_names cs ds) h) in
      let f : cs ≡ ds = names_sound cs ds (second_so (same_name c d) (same_names cs ds) h) in
      λ i. more_names (e i) (f i)
  names_sound cs ds h = cc

mutual
  name_itself : (c : NameTree) → same_name c c ≡ true
  name_itself any_name = refl
  name_itself (any_name_but c) = name_itself c
  name_itself (ns_name u) = (text_decides u u).1 refl
  name_itself (ns_name_but u c) = and_from (same_text u u) (same_name c c) ((text_decides u u).1 refl) (name_itself c)
  name_itself (name u l) = and_from (same_text u u) (same_text l l) ((text_decides u u).1 refl) ((text_decides l l).1 refl)
  name_itself (name_choice cs) = names_itself cs

  names_itself : (cs : NameTrees) → same_names cs cs ≡ true
  names_itself no_names = refl
  names_itself (more_names c cs) = and_from (same_name c c) (same_names cs cs) (name_itself c) (names_itself cs)

pub names_decides : (cs ds : NameTrees) → Decides (same_names cs ds) (cs ≡ ds)
names_decides cs ds = (names_sound cs ds, λ e. subst (λ t. same_names cs t ≡ true) e (names_itself cs))

pub parameter_decides : (x y : Text × Text) → Decides (same_parameter x y) (x ≡ y)
parameter_decides x y = (
  λ h i. ((text_decides x.0 y.0).0 (first_so (same_text x.0 y.0) (same_text x.1 y.1) h) i, (text_decides x.1 y.1).0 (second_so (same_text x.0 y.0) (same_text x.1 y.1) h) i),
  λ e. and_from (same_text x.0 y.0) (same_text x.1 y.1) ((text_decides x.0 y.0).1 (ap (λ p. p.0) e)) ((text_decides x.1 y.1).1 (ap (λ p. p.1) e)),
)

pub parts_decides : (x y : NodeParts) → Decides (same_parts x y) (x ≡ y)
parts_decides x y =
    let a = nat_eq x.0 y.0 in
    let b = pointwise same_text x.1 y.1 in
    let c = pointwise same_parameter x.2 y.2 in
    let d = same_names x.3 y.3 in
    let e = pointwise nat_eq x.4 y.4 in (
      λ h i. (
        (number_decides x.0 y.0).0 (first_so a (b && (c && (d && e))) h) i,
        (pointwise_decides text_decides x.1 y.1).0 (first_so b (c && (d && e)) (second_so a (b && (c && (d && e))) h)) i,
        (pointwise_decides parameter_decides x.2 y.2).0 (first_so c (d && e) (second_so b (c && (d && e)) (second_so a (b && (c && (d && e))) h))) i,
        (names_decides x.3 y.3).0 (first_so d e (second_so c (d && e) (second_so b (c && (d && e)) (second_so a (b && (c && (d && e))) h)))) i,
        (bytes_decides x.4 y.4).0 (second_so d e (second_so c (d && e) (second_so b (c && (d && e)) (second_so a (b && (c && (d && e))) h)))) i,
      ),
      λ f. and_from a (b && (c && (d && e))) ((number_decides x.0 y.0).1 (ap (λ p. p.0) f))
          (and_from b (c && (d && e)) ((pointwise_decides text_decides x.1 y.1).1 (ap (λ p. p.1) f))
          (and_from c (d && e) ((pointwise_decides parameter_decides x.2 y.2).1 (ap (λ p. p.2) f))
          (and_from d e ((names_decides x.3 y.3).1 (ap (λ p. p.3) f)) ((bytes_decides x.4 y.4).1 (ap (λ p. p.4) f))))),
    )

pub node_eq_equiv : IsEquivalence node_eq
node_eq_equiv = on_equiv node_parts (decided same_parts parts_decides)

abbrev mutual
  pub name_writes : NameTree → List (List ℕ)
  name_writes any_name = fed.u8 0
  name_writes (any_name_but c) = fed.u8 1 ++ name_writes c
  name_writes (ns_name u) = fed.u8 2 ++ fed.str u
  name_writes (ns_name_but u c) = fed.u8 3 ++ (fed.str u ++ name_writes c)
  name_writes (name u l) = fed.u8 4 ++ (fed.str u ++ fed.str l)
  name_writes (name_choice cs) = fed.u8 5 ++ names_writes cs

  pub names_writes : NameTrees → List (List ℕ)
  names_writes no_names = []
  names_writes (more_names c cs) = name_writes c ++ names_writes cs

abbrev pub parameters_writes : Parameters → List (List ℕ)
parameters_writes ps = flat_map (λ p. fed.str p.0 ++ fed.str p.1) ps

abbrev pub places_writes : List NodeId → List (List ℕ)
places_writes is = flat_map fed.usize (map (λ i. i.0) is)

-- what is hashed of a node behind the number of its kind
abbrev pub parts_writes : Node NodeId → List (List ℕ)
parts_writes (Node.Ref x) = fed.str x
parts_writes (Node.Value l x t) = fed.str (rc_str_bytes l) ++ (fed.str (string_bytes x) ++ fed.str (string_bytes t))
parts_writes (Node.Datum l x ps e) = fed.str (rc_str_bytes l) ++ (fed.str (string_bytes x) ++ (parameters_writes (parameters_view ps.items) ++ places_writes (option_to_list e)))
parts_writes (Node.List i) = fed.usize i.0
parts_writes (Node.Attribute c i) = name_writes (name_class_view c) ++ fed.usize i.0
parts_writes (Node.Element c i) = name_writes (name_class_view c) ++ fed.usize i.0
parts_writes (Node.OneOrMore i) = fed.usize i.0
parts_writes (Node.Group is) = places_writes is.items
parts_writes (Node.Interleave is) = places_writes is.items
parts_writes (Node.Choice is) = places_writes is.items
parts_writes n = []

abbrev pub node_writes : Node NodeId → List (List ℕ)
node_writes n = fed.u8 (node_rank n) ++ parts_writes n

-- how many of the three texts are hashed of a node, by its kind; so what is hashed depends on the parts of a node alone
text_count : ℕ → ℕ
text_count rank = cond (nat_eq rank 3) 1 (cond (nat_eq rank 4) 3 (cond (nat_eq rank 5) 2 0))

node_parts_writes : NodeParts → List (List ℕ)
node_parts_writes k = fed.u8 k.0 ++ (flat_map fed.str (take (text_count k.0) k.1) ++ (parameters_writes k.2 ++ (names_writes k.3 ++ flat_map fed.usize k.4)))

writes_of_parts : (n : Node NodeId) → node_parts_writes (node_parts n) ≡ node_writes n
unfolding node_parts_writes text_count
writes_of_parts Node.NotAllowed = refl
writes_of_parts Node.Empty = refl
writes_of_parts Node.Text = refl
writes_of_parts (Node.Ref x) = simp append-nil
writes_of_parts (Node.Value l x t) = simp append-nil
writes_of_parts (Node.Datum l x ps e) = simp append_assoc
writes_of_parts (Node.List i) = simp append-nil
writes_of_parts (Node.Attribute c i) = simp append-nil
writes_of_parts (Node.Element c i) = simp append-nil
writes_of_parts (Node.OneOrMore i) = simp append-nil
writes_of_parts (Node.Group is) = refl
writes_of_parts (Node.Interleave is) = refl
writes_of_parts (Node.Choice is) = refl

pub node_eq_writes : (m n : Node NodeId) → IsTrue (node_eq m n) → node_writes m ≡ node_writes n
node_eq_writes m n h = sym (writes_of_parts m) ∙ ap node_parts_writes ((parts_decides (node_parts m) (node_parts n)).0 h) ∙ writes_of_parts n
