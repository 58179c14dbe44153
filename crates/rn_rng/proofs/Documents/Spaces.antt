-- The white space between lines counts for nothing.
use Rattle.std.proofs.lemmas.Bool.Decides.{nat_tests}
use Rattle.std.proofs.Common.{◌≡◌, ℕ, Bool, true, false, cond, List, [], ◌∷◌, ◌++◌, refl, ap, ◌∙◌, arith}
use Rattle.std.specs.Prelude.{codes, bytes_eq, encode_utf8_all, ◌||◌, ◌<◌, not}
use Rattle.std.specs.List.{list_all}
use Rattle.std.proofs.lemmas.Str.{encode_ascii}
use Rattle.std.proofs.lemmas.Bool.{and_parts, cond-true}
use Rattle.rn_text.specs.Texts.{Text, is_white}
use Rattle.rn_pattern.specs.Document.{Attribute, Item, node, string, Items, no_items, more_items}
use Rattle.rn_rng.specs.Translation.{rng_uri}
use Rattle.rn_rng.specs.Layout.{deeper, indent, holds_text}
use Rattle.rn_rng.specs.XmlDocument.{with_string, keeps_white, kept_before, without_white, without_white_in}
use Rattle.rn_rng.specs.SpellableItems.{IsSpellableText, IsSpellableItem, AreSpellableItems, line, block}
use Rattle.rn_rng.specs.SpellableItems as s
use Rattle.rn_text.proofs.Words.AppendedLists.{all_append}
use Rattle.rn_rng.proofs.Documents.Elements.{spaced, spaced_within, spaced_in, white_indent, spaced_line, spaced_block}

white_ascii : (c : ℕ) → is_white c ≡ true → c < 128
white_ascii c h1 = grind (arith, nat_tests)

white_encodes : (cs : List ℕ) → list_all is_white cs ≡ true → encode_utf8_all cs ≡ cs
white_encodes [] w = refl
white_encodes (c ∷ cs) w = let both = and_parts (is_white c) (list_all is_white cs) w in
    ap (λ front. front ++ encode_utf8_all cs) (encode_ascii c (white_ascii c both.0)) ∙ ap (λ rest. c ∷ rest) (white_encodes cs both.1)

-- a string of white space is left out
white_gone : (cs : List ℕ) (k : Items) → list_all is_white cs ≡ true → without_white_in false (with_string cs k) ≡ without_white_in false k
white_gone [] k w = refl
white_gone (c ∷ cs) k w = gone (encode_utf8_all (c ∷ cs)) (ap (list_all is_white) (white_encodes (c ∷ cs) w) ∙ w)
  where
    gone : (t : Text) → list_all is_white t ≡ true → kept_before false (string t) (without_white_in false k) ≡ without_white_in false k
    gone t e = ap (λ v. cond (false || not v) (more_items (string t) (without_white_in false k)) (without_white_in false k)) e

or_false : (a b : Bool) → (a || b) ≡ false → b ≡ false
or_false true b e = cc
or_false false b e = e

pub unheld : (local : Text) → holds_text local ≡ false → keeps_white rng_uri local ≡ false
unheld local holds = or_false (bytes_eq local (codes "name")) (bytes_eq local (codes "value") || bytes_eq local (codes "param")) holds

text_stays : (local : Text) (content : Items) → IsSpellableText local content → without_white_in (keeps_white rng_uri local) content ≡ content
text_stays local content s.none = refl
text_stays local content (s.one {s = t} x some white) = cond-true (keeps_white rng_uri local || not (list_all is_white t)) (more_items (string t) no_items) no_items white

node_stays : (x : Item) (k : Items) → IsSpellableItem x → kept_before false x k ≡ more_items x k
node_stays x k (line name a holds text) = refl
node_stays x k (block name a holds inner) = refl

within : (n : ℕ) (k : Items) → without_white_in false (spaced_in (10 ∷ []) (deeper n) n k) ≡ k → without_white_in false (spaced_within n k) ≡ k
within n no_items e = refl
within n (more_items i is) e = e

block_stays : (n : ℕ) (local : Text) (a : List Attribute) (k : Items) → holds_text local ≡ false → without_white_in false (spaced_in (10 ∷ []) (deeper n) n k) ≡ k
    → without_white (spaced n (node rng_uri local a k)) ≡ node rng_uri local a k
block_stays n local a k holds e = ap without_white (spaced_block n local a k holds) ∙ (ap (λ b. node rng_uri local a (without_white_in b (spaced_within n k))) (unheld local holds) ∙ ap (λ c. node rng_uri local a c) (within n k e))

line_stays : (n : ℕ) (local : Text) (a : List Attribute) (k : Items) → holds_text local ≡ true → IsSpellableText local k → without_white (spaced n (node rng_uri local a k)) ≡ node rng_uri local a k
line_stays n local a k holds text = ap without_white (spaced_line n local a k holds) ∙ ap (λ c. node rng_uri local a c) (text_stays local k text)

more_stay : (w : List ℕ) (n m : ℕ) (x : Item) (k : Items) → list_all is_white w ≡ true → IsSpellableItem x → without_white (spaced n x) ≡ x → without_white_in false (spaced_in (10 ∷ []) n m k) ≡ k
    → without_white_in false (spaced_in w n m (more_items x k)) ≡ more_items x k
more_stay w n m x k white h e f = white_gone (w ++ indent n) (more_items (spaced n x) (spaced_in (10 ∷ []) n m k)) (all_append is_white w (indent n) white (white_indent n))
    ∙ (ap (λ y. kept_before false y (without_white_in false (spaced_in (10 ∷ []) n m k))) e ∙ (node_stays x (without_white_in false (spaced_in (10 ∷ []) n m k)) h ∙ ap (λ j. more_items x j) f))

mutual
  pub item_stays : (x : Item) → IsSpellableItem x → (n : ℕ) → without_white (spaced n x) ≡ x
  item_stays x (line {local = local} {attributes = attributes} {content = content} name a holds text) n = line_stays n local attributes content holds text
  item_stays x (block {local = local} {attributes = attributes} {content = content} name a holds inner) n = block_stays n local attributes content holds (items_stay content inner (10 ∷ []) (deeper n) n refl)

  pub items_stay : (k : Items) → AreSpellableItems k → (w : List ℕ) (n m : ℕ) → list_all is_white w ≡ true → without_white_in false (spaced_in w n m k) ≡ k
  items_stay k s.none w n m white = white_gone (w ++ indent m) no_items (all_append is_white w (indent m) white (white_indent m))
  items_stay k (s.more {x = y} {k = others} first behind) w n m white = more_stay w n m y others white first (item_stays y first n) (items_stay others behind (10 ∷ []) n m refl)
