-- Modules, part by part.
use Rattle.std.proofs.Common.{◌≡◌, ℕ, List, [], ◌∷◌, ◌++◌, refl, ap, sym, ◌∙◌, subst, append-nil, append_assoc, unwrap_or}
use Rattle.std.proofs.lemmas.Bool.{false≢true}
use Rattle.rn_text.specs.declared.source.Token.{Token}
use Rattle.rn_syntax.specs.declared.fault.Fault.{Fault}
use Rattle.rn_syntax.specs.declared.fault.Fault.TheVariants as f
use Rattle.rn_text.specs.declared.keywords.Keyword.TheVariants as k
use Rattle.rn_syntax.specs.declared.productions.terminals.Terminal as code
use Rattle.rn_syntax.specs.declared.productions.terminals.Terminal.TheVariants as c
use Rattle.rn_syntax.specs.Terminal as x
use Rattle.rn_syntax.specs.Terminal.{Placed, ◌#◌, keyword, left_brace, right_brace, left_bracket}
use Rattle.rn_syntax.specs.Tree.{Declaration, Item, Module, items_of}
use Rattle.rn_syntax.specs.Grammar as g
use Rattle.rn_syntax.specs.Grammar.{Tokens, IsAnnotation, MayHaveAnnotation, AreFollows, AreItems, AreDeclarations, IsModule}
use Rattle.rn_syntax.specs.Beginnings.{HasTree, IsRefused, Stops}
use Rattle.rn_syntax.specs.inside.Follow.{Starts, Anything, first_terminal, no_follow, is_end, behind_item}
use Rattle.rn_syntax.specs.inside.Sequence.{Then, both, Gives, gives, IsToken, token}
use Rattle.rn_syntax.specs.inside.Itemizing.{AreAnnotatedItems}
use Rattle.rn_syntax.specs.inside.Modular.{IsGrammarEnd, IsBody, items_body, grammar_body, IsAnnotatedBody, items_behind, grammar_behind, IsModuleBefore, IsModuleFault}
use Rattle.rn_syntax.specs.inside.Readers.{Alike, ends, same, Took, Stuck, Faults, Bare, seen, IsNext, rest}
use Rattle.rn_syntax.specs.Spelled.{AreSpelled}
use Rattle.rn_syntax.proofs.OneReading.OneClass.{may_one}
use Rattle.rn_syntax.proofs.OneReading.OneTree.{component_front, component_grammar, keyword_note, is_grammar, items_front, may_item}
use Rattle.rn_syntax.proofs.ProductionsRead.Compose.{Upto, Fits, Can, upto_at, upto_token, upto_then, took_upto, stuck_upto, reads, stuck_in, took_gives, first_alike, fits_anything, fits_token, fits_gives, can_gives, alike_token}
use Rattle.rn_syntax.proofs.ProductionsRead.Next.{first_next}
use Rattle.rn_syntax.proofs.ProductionsRead.Itemized.{first_items_to, first_items_from, first_items_grammar, can_first_items}

-- ---- behind `grammar`

to_follow : (r : Tokens) → Starts is_end r → Starts no_follow r
to_follow [] h = tt
to_follow (x.right_brace # i ∷ r) h = refl
to_follow (y # i ∷ r) h = absurd (false≢true h)

abbrev pub Closing : List Item → ℕ → Tokens → List Item → Tokens → Type 0
Closing xs j = Then (Bare AreFollows) (λ (u : Unit {0}). Gives xs)

abbrev pub Close : List Item → Tokens → List Item → Tokens → Type 0
Close xs = Then (IsToken right_brace) (Closing xs)

abbrev pub Inside : ℕ → Tokens → List Item → Tokens → Type 0
Inside i = Then AreItems Close

fits_close : Fits (Starts is_end) Close (Starts is_end)
fits_close = fits_token is_end refl

fits_follows : (xs : List Item) → Fits (Starts no_follow) (λ (u : Unit {0}). Gives xs) (Starts is_end)
fits_follows xs = fits_gives (λ (u : Unit {0}). xs) to_follow

can_inside : Can Inside
can_inside more = (right_brace # 0 ∷ more, λ i. ([], both g.none (both token (both g.none gives))))

can_close : Can Close
can_close more = (right_brace # 0 ∷ more, λ xs. (xs, both token (both g.none gives)))

can_closing : (xs : List Item) → Can (Closing xs)
can_closing xs more = (more, λ j. (xs, both g.none gives))

pub grammar_brace : {ts bad : Tokens} → Stuck (IsToken left_brace) Anything ts bad → Stuck IsGrammarEnd (Starts is_end) ts bad
grammar_brace e = stuck_in fits_anything can_inside e

module _ {ts now : Tokens} {i : ℕ} (e : Took (IsToken left_brace) Anything ts i now) where
  pub grammar_items : {bad : Tokens} → Stuck AreItems (Starts is_end) now bad → Stuck IsGrammarEnd (Starts is_end) ts bad
  grammar_items d = stuck_upto (reads fits_anything e) (stuck_in fits_close can_close d)

  module _ {next : Tokens} {xs : List Item} (d : Took AreItems (Starts is_end) now xs next) where
    grammar_inside : Upto IsGrammarEnd (Close xs) (Starts is_end) ts next
    grammar_inside = upto_then (reads fits_anything e) (reads fits_close d)

    pub grammar_close : {bad : Tokens} → Stuck (IsToken right_brace) Anything next bad → Stuck IsGrammarEnd (Starts is_end) ts bad
    grammar_close b = stuck_upto grammar_inside (stuck_in fits_anything (can_closing xs) b)

    module _ {behind : Tokens} {j : ℕ} (b : Took (IsToken right_brace) Anything next j behind) where
      grammar_closed : Upto IsGrammarEnd (Closing xs j) (Starts is_end) ts behind
      grammar_closed = upto_then grammar_inside (reads fits_anything b)

      pub grammar_follows : {bad : Tokens} → Stuck (Bare AreFollows) (Starts no_follow) behind bad → Stuck IsGrammarEnd (Starts is_end) ts bad
      grammar_follows l = stuck_upto grammar_closed (stuck_in (fits_follows xs) (can_gives (λ (u : Unit {0}). xs)) l)

      pub grammar_took : {end : Tokens} → Took (Bare AreFollows) (Starts no_follow) behind tt end → Took IsGrammarEnd (Starts is_end) ts xs end
      grammar_took {end = end} l = took_upto (upto_then grammar_closed (reads (fits_follows xs) l)) (took_gives xs end)

-- ---- bodies

-- items don't begin with `grammar`
items_no_grammar : {ts us r : Tokens} {i : ℕ} {xs : List Item} → AreItems ts xs r → Starts is_end r → MayHaveAnnotation ts (keyword k.Grammar # i ∷ us) → ⊥
items_no_grammar g.none e g.bare = false≢true e
items_no_grammar g.none e (g.annotated (g.bracketed b)) = false≢true e
items_no_grammar (g.component {after = after} {x = y} m d n) e a = let s = may_one m a (component_front d).1 refl in component_grammar (subst (λ z. g.IsComponent z y after) s d)
items_no_grammar (g.div m n o) e a = let s = ap (λ z. is_grammar (first_terminal z)) (may_one m a refl refl) in false≢true s
items_no_grammar (g.include m l h o n) e a = let s = ap (λ z. is_grammar (first_terminal z)) (may_one m a refl refl) in false≢true s
items_no_grammar (g.note n m) e a = keyword_note a n

pub body_grammar : {i : ℕ} {now next : Tokens} → now ≡ keyword k.Grammar # i ∷ next → Upto IsBody IsGrammarEnd (Starts is_end) now next
body_grammar {i = i} e = upto_token e (λ t z r d. grammar_body g.bare d) (λ t z r d h. from d h)
  where
    from : {t r : Tokens} {xs : List Item} → IsBody (keyword k.Grammar # i ∷ t) xs r → Starts is_end r → IsGrammarEnd t xs r
    from (grammar_body g.bare d) h = d
    from (grammar_body (g.annotated a) d) h = elim a [ ]
    from (items_body d) h = absurd (items_no_grammar d h g.bare)

pub behind_grammar : {i : ℕ} {now next : Tokens} → now ≡ keyword k.Grammar # i ∷ next → Upto IsAnnotatedBody IsGrammarEnd (Starts is_end) now next
behind_grammar {i = i} e = upto_token e (λ t z r d. grammar_behind d) (λ t z r d h. from d)
  where
    from : {t r : Tokens} {xs : List Item} → IsAnnotatedBody (keyword k.Grammar # i ∷ t) xs r → IsGrammarEnd t xs r
    from (grammar_behind d) = d
    from (items_behind d) = absurd (first_items_grammar d)

pub behind_items : {now : Tokens} → (first_terminal now ≡ keyword k.Grammar → ⊥) → Upto IsAnnotatedBody AreAnnotatedItems (Starts is_end) now now
behind_items n = upto_at (λ t z r d. items_behind d) (λ t a z r d h. from (λ e. n (sym (first_alike a) ∙ e)) d)
  where
    from : {t r : Tokens} {xs : List Item} → (first_terminal t ≡ keyword k.Grammar → ⊥) → IsAnnotatedBody t xs r → AreAnnotatedItems t xs r
    from n (items_behind d) = d
    from n (grammar_behind d) = absurd (n refl)

not_bracket : (y : code.Terminal) → (y ≡ c.LeftBracket → ⊥) → unwrap_or (seen y) x.other ≡ left_bracket → ⊥
not_bracket c.LeftBracket h e = h refl
not_bracket y h e = cc

pub body_items : (now behind : Tokens) (y : code.Terminal) → IsNext now (seen y) behind → (y ≡ c.LeftBracket → ⊥) → (first_terminal now ≡ keyword k.Grammar → ⊥) → Upto IsBody AreItems (Starts is_end) now now
body_items now behind y e h n =
    upto_at (λ t z r d. items_body d) (λ t a z r d s. from (λ f. not_bracket y h (sym (first_next now behind (seen y) e) ∙ sym (first_alike a) ∙ f)) (λ f. n (sym (first_alike a) ∙ f)) d)
  where
    from : {t r : Tokens} {xs : List Item} → (first_terminal t ≡ left_bracket → ⊥) → (first_terminal t ≡ keyword k.Grammar → ⊥) → IsBody t xs r → AreItems t xs r
    from b n (items_body d) = d
    from b n (grammar_body g.bare d) = absurd (n refl)
    from b n (grammar_body (g.annotated (g.bracketed a)) d) = absurd (b refl)

abbrev Annotated : Tokens → List Item → Tokens → Type 0
Annotated = Then (Bare IsAnnotation) (λ (u : Unit {0}). IsAnnotatedBody)

body_bracket : {i : ℕ} {now next : Tokens} → now ≡ left_bracket # i ∷ next → Upto IsBody Annotated (Starts is_end) now now
body_bracket {i = i} {now = now} e = upto_at (λ t z r d. to d) (λ t a z r d h. let l = alike_token e a in subst (λ (s : Tokens). Annotated s z r) (sym l.1) (from (subst (λ (s : Tokens). IsBody s z r) l.1 d) h))
  where
    to : {t r : Tokens} {xs : List Item} → Annotated t xs r → IsBody t xs r
    to (both a (items_behind d)) = items_body (first_items_to (g.annotated a) d)
    to (both a (grammar_behind d)) = grammar_body (g.annotated a) d

    from : {t r : Tokens} {xs : List Item} → IsBody (left_bracket # i ∷ t) xs r → Starts is_end r → Annotated (left_bracket # i ∷ t) xs r
    from (items_body d) h = let s = first_items_from d h in both s.1 (items_behind s.2)
    from (grammar_body (g.annotated a) d) h = both a (grammar_behind d)

pub body_annotation : {i : ℕ} {ts next bad : Tokens} → ts ≡ left_bracket # i ∷ next → Stuck (Bare IsAnnotation) Anything ts bad → Stuck IsBody (Starts is_end) ts bad
body_annotation e a = stuck_upto (body_bracket e) (stuck_in fits_anything (λ more. let w = can_first_items more in (w.0, λ u. (w.1, items_behind w.2))) a)

pub body_annotated : {i : ℕ} {ts next now : Tokens} → ts ≡ left_bracket # i ∷ next → Took (Bare IsAnnotation) Anything ts tt now → Upto IsBody IsAnnotatedBody (Starts is_end) ts now
body_annotated e a = upto_then (body_bracket e) (reads fits_anything a)

-- ---- modules

abbrev Made : List Declaration → List Item → Module
Made ds xs = record { declarations = ds; items = items_of xs }

abbrev pub Items : List Declaration → Tokens → Module → Tokens → Type 0
Items ds = Then IsBody (λ (xs : List Item). Gives (Made ds xs))

body_front : {ts r : Tokens} {xs : List Item} → IsBody ts xs r → Starts is_end r → Starts behind_item ts
body_front (items_body d) h = items_front d h
body_front (grammar_body a d) h = may_item a refl

items_before : {ds : List Declaration} {ts r : Tokens} {m : Module} → Items ds ts m r → Starts is_end r → Starts behind_item ts
items_before (both d gives) h = body_front d h

pub fits_body : Fits (Starts behind_item) Items (Starts is_end)
fits_body = record { fits = λ ds mid m r d h. items_before d h }

fits_made : (ds : List Declaration) → Fits (Starts is_end) (λ (xs : List Item). Gives (Made ds xs)) (Starts is_end)
fits_made ds = fits_gives (λ (xs : List Item). Made ds xs) (λ r h. h)

pub module_declarations : {ts bad : Tokens} → Stuck AreDeclarations (Starts behind_item) ts bad → Stuck IsModuleBefore (Starts is_end) ts bad
module_declarations d = stuck_in fits_body (λ more. (more, λ ds. (Made ds [], both (items_body g.none) gives))) d

pub module_body : {ts now bad : Tokens} {ds : List Declaration} → Took AreDeclarations (Starts behind_item) ts ds now → Stuck IsBody (Starts is_end) now bad → Stuck IsModuleBefore (Starts is_end) ts bad
module_body {ds = ds} d b = stuck_upto (reads fits_body d) (stuck_in (fits_made ds) (can_gives (λ (xs : List Item). Made ds xs)) b)

pub module_took : {ts now end : Tokens} {ds : List Declaration} {xs : List Item} → Took AreDeclarations (Starts behind_item) ts ds now → Took IsBody (Starts is_end) now xs end → Took IsModuleBefore (Starts is_end) ts (record { declarations = ds; items = items_of xs }) end
module_took {end = end} {ds = ds} {xs = xs} d b = took_upto (upto_then (reads fits_body d) (reads (fits_made ds) b)) (took_gives (Made ds xs) end)

-- ---- whole tokens

before_end : {ts : Tokens} {m : Module} → IsModuleBefore ts m [] → IsModule ts m
before_end (both d (both (items_body i) gives)) = g.items d i
before_end (both d (both (grammar_body a (both token (both i (both token (both l gives))))) gives)) = g.grammar d a i l

end_before : {ts : Tokens} {m : Module} → IsModule ts m → IsModuleBefore ts m []
end_before (g.items d i) = both d (both (items_body i) gives)
end_before (g.grammar d a i l) = both d (both (grammar_body a (both token (both i (both token (both l gives))))) gives)

pub whole_tree : {ts end : Tokens} {m : Module} → end ≡ [] → Took IsModuleBefore (Starts is_end) ts m end → HasTree ts m
whole_tree {m = m} e d = before_end (subst (λ (l : Tokens). IsModuleBefore l m []) (sym (d.cut ∙ ap (λ (l : Tokens). d.front ++ l) e)) (d.derives []))

stuck_refused : (front bad : Tokens) → ((t : Tokens) → Alike t bad → (m : Module) → IsModule (front ++ t) m → ⊥) → IsRefused front bad
stuck_refused front [] h = λ m d. h [] ends m (subst (λ (l : Tokens). IsModule l m) (sym (append-nil front)) d)
stuck_refused front (y ∷ bad) h = λ b. h (y ∷ b.0) same b.1 (subst (λ (l : Tokens). IsModule l b.1) (append_assoc front (y ∷ []) b.0) b.2)

pub stuck_stops : {ts bad : Tokens} → Stuck IsModuleBefore (Starts is_end) ts bad → Stops ts bad
stuck_stops {bad = bad} d = record {
  front = d.front;
  cut = d.cut;
  begins = let b = d.begins [] in (b.0, b.1, before_end b.2);
  refused = stuck_refused d.front bad (λ t a m n. d.refuses t a m [] (end_before n) tt);
}

more_left : {y : Placed} {now t : Tokens} → Alike t (y ∷ now) → [] ≡ t → ⊥
more_left same e = cc

pub took_stops : {y : Placed} {ts now next : Tokens} {m : Module} → now ≡ y ∷ next → Took IsModuleBefore (Starts is_end) ts m now → Stops ts now
took_stops {now = now} {m = m} e d = record {
  front = d.front;
  cut = d.cut;
  begins = ([], m, before_end (d.derives []));
  refused = stuck_refused d.front now (λ t a n f. let o = d.only t a n [] (end_before f) tt in more_left (subst (Alike t) e a) o.1);
}

-- what a reader of a part answers
pub module_fault : {A : Type 0} {N : Tokens → A → Tokens → Type 0} {F : Tokens → Type 0} (xs : List Token) (now : ℕ) (e : Fault) → (AreSpelled xs → (bad : ℕ) → Stuck N F (rest xs now) (rest xs bad) → Stuck IsModuleBefore (Starts is_end) (rest xs 0) (rest xs bad)) → Faults N F xs now e → IsModuleFault xs e
module_fault xs now (f.Stuck bad) rule h = λ s. stuck_stops (rule s bad (h s))
module_fault xs now f.Memory rule h = tt
