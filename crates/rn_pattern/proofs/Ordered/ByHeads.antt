-- The order of two patterns is that of their heads, and then that of their members.
use Rattle.std.proofs.Common.{◌≡◌, ℕ, List, sym, ap, ◌∙◌, Ordering, Equal, nat_cmp}
use Rattle.std.specs.Ordering.{ordering_then}
use Rattle.std.specs.Cmp.Lexicographic.{slice_cmp}
use Rattle.std.proofs.lemmas.Cmp.{ranked}
use Rattle.rn_pattern.specs.Tree.{Parameters, NameTrees, Tree}
use Rattle.rn_text.specs.Texts.{Text, text_cmp}
use Rattle.rn_pattern.specs.Order.{rank, parameters_cmp, names_cmp, tree_cmp, trees_cmp}
use Rattle.rn_pattern.specs.declared.heads.Heads.{Heads}
use Rattle.rn_pattern.specs.inside.Shown.{texts_in, parameters_in, names_in, members_in, part_texts, part_parameters, part_class, heads_cmp, ShowsHeads}
use Rattle.rn_pattern.proofs.Ordered.TotalOrder.{then_assoc, tree_cmp-by_parts}
use Rattle.rn_pattern.proofs.Ordered.Orders.{then_first}
use Rattle.rn_pattern.proofs.Ordered.Stepwise.{then_settled, then_tied}

then_four : (r t p n m : Ordering) → ordering_then (ordering_then r (ordering_then t (ordering_then p n))) m ≡ ordering_then r (ordering_then t (ordering_then p (ordering_then n m)))
then_four r t p n m = then_assoc r (ordering_then t (ordering_then p n)) m ∙ ap (ordering_then r) (then_assoc t (ordering_then p n) m ∙ ap (ordering_then t) (then_assoc p n m))

pub by_heads : (p q : Tree) (k l : ℕ) (xs ys : List Text) (ps qs : Parameters) (c d : NameTrees) → k ≡ rank p → l ≡ rank q → xs ≡ texts_in p → ys ≡ texts_in q → ps ≡ parameters_in p → qs ≡ parameters_in q → c ≡ names_in p → d ≡ names_in q
    → tree_cmp p q ≡ ordering_then (ordering_then (nat_cmp k l) (ordering_then (names_cmp c d) (ordering_then (slice_cmp text_cmp xs ys) (parameters_cmp ps qs)))) (trees_cmp (members_in p) (members_in q))
by_heads p q k l xs ys ps qs c d ek el ex ey ep eq ec ed =
    let members = trees_cmp (members_in p) (members_in q) in
    tree_cmp-by_parts p q
    ∙ (λ z. ordering_then (nat_cmp ((sym ek) z) ((sym el) z)) (ordering_then (names_cmp ((sym ec) z) ((sym ed) z)) (ordering_then (slice_cmp text_cmp ((sym ex) z) ((sym ey) z)) (ordering_then (parameters_cmp ((sym ep) z) ((sym eq) z)) members))))
    ∙ sym (then_four (nat_cmp k l) (names_cmp c d) (slice_cmp text_cmp xs ys) (parameters_cmp ps qs) members)

pub kinds_tied : (x y : Heads) → Equal ≡ heads_cmp x y → x.kind ≡ y.kind
kinds_tied x y h =
    let behind = ordering_then (names_cmp (part_class x) (part_class y)) (ordering_then (slice_cmp text_cmp (part_texts x) (part_texts y)) (parameters_cmp (part_parameters x) (part_parameters y))) in
    ranked x.kind y.kind Equal (sym (then_first (nat_cmp x.kind y.kind) behind (sym h)))

module _ (p q : Tree) (x y : Heads) (a : ShowsHeads p x) (b : ShowsHeads q y) (r : Ordering) (e : r ≡ heads_cmp x y) where
  heads_first : tree_cmp p q ≡ ordering_then r (trees_cmp (members_in p) (members_in q))
  heads_first =
      by_heads p q x.kind y.kind (part_texts x) (part_texts y) (part_parameters x) (part_parameters y) (part_class x) (part_class y) a.kinds b.kinds a.texts_are b.texts_are a.parameters_are b.parameters_are a.class_is b.class_is
      ∙ ap (λ o. ordering_then o (trees_cmp (members_in p) (members_in q))) (sym e)

  pub heads_settled : ¬ (r ≡ Equal) → r ≡ tree_cmp p q
  heads_settled h = sym (heads_first ∙ then_settled r (trees_cmp (members_in p) (members_in q)) h)

  pub heads_tied : r ≡ Equal → tree_cmp p q ≡ trees_cmp (members_in p) (members_in q)
  heads_tied h = heads_first ∙ then_tied r (trees_cmp (members_in p) (members_in q)) h

  pub same_kind : r ≡ Equal → rank p ≡ rank q
  same_kind h = sym a.kinds ∙ kinds_tied x y (sym h ∙ e) ∙ b.kinds
