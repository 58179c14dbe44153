-- Attributes and ends of tags that are none.
use Rattle.std.proofs.Common.{◌≡◌, ◌≢◌, ◌<◌, ℕ, true, false, List, [], ◌∷◌, ◌++◌, length, get_or, refl, sym, ap, ◌∙◌, subst, arith, inl, inr, ⊎_elim, append_assoc, length-append, Some, None}
use Rattle.std.specs.Prelude.{◌==◌, ◌&&◌, ◌⊎◌, All, Option, encode_utf8_all}
use Rattle.std.specs.Str.{chars}
use Rattle.std.proofs.lemmas.Bool.{and_parts, or_cases, true≢false, false≢true, eqb-true}
use Rattle.std.proofs.lemmas.Bool.Decides.{nat_tests}
use Rattle.std.proofs.lemmas.List.{get_or_append_left}
use Rattle.std.proofs.lemmas.Option.{get_or_from_slice_get, slice_get_within}
use Rattle.rn_text.specs.Segments.{begins_with, after_run, is_delimiter}
use Rattle.rn_text.specs.Texts.{Text, is_white}
use Rattle.rn_text.proofs.Words.CharacterRuns.{stop_fails}
use Rattle.rn_text.proofs.Words.EqualLists.{cons_first, cons_rest}
use Rattle.rn_xml.specs.Infoset.{Binding}
use Rattle.rn_xml.specs.XmlCharacters.{lines_of, MaySpace, IsSpace, IsValue, IsAttValue}
use Rattle.rn_xml.specs.XmlCharacters as x
use Rattle.rn_xml.specs.XmlTags.{IsEq, IsAttribute, AreAttributes, WrittenAttribute, MayBind, AreDistinct, bindings, binding_before, declared_prefix}
use Rattle.rn_xml.specs.XmlTags as t
use Rattle.rn_xml.specs.declared.characters.QName.{QName}
use Rattle.rn_xml.specs.inside.Fronts.{BeginsName, ends_name, closes_tag, is_tag_end}
use Rattle.rn_xml.specs.inside.Pieces.{SplitsName}
use Rattle.rn_xml.specs.inside.TagTables.{AreUpToEnd, CannotAdd, IsBoundIn}
use Rattle.rn_xml.specs.inside.WrittenAttributes.{DeclaresAs}
use Rattle.rn_xml.proofs.Decoding.DeclarationFields.{space_there, white_run, white_all, some_white}
use Rattle.rn_xml.proofs.Refusals.OneReading.Names.{qname_once, equals_ends, equals_once}
use Rattle.rn_xml.proofs.Refusals.OneReading.Tags.{value_opens, quote_black, end_black, attribute_begins, start_black, attributes_lead, LeadsOn}
use Rattle.rn_xml.proofs.RowReads.{got_left, got_last, got_all}
use Rattle.rn_xml.proofs.Sources.{inner_itself, inner_black, space_lines}
use Rattle.rn_xml.proofs.TagSteps.{bindings_push}

-- ---- before a value

pub no_equals : (cs : List ℕ) → begins_with (λ d. d == 61) (after_run is_white cs) ≡ false → (quote : ℕ) (inside : List ℕ) → is_delimiter quote ≡ true → ¬ IsEq (lines_of cs) (quote ∷ inside)
no_equals cs none quote inside d (t.IsEq.equals {mid = m} before after) =
    let there = space_there cs m 61 refl before in true≢false (sym (ap (begins_with (λ d. d == 61)) there.1) ∙ none)

pub no_quote_behind : (cs equals : List ℕ) → after_run is_white cs ≡ 61 ∷ equals → begins_with is_delimiter (after_run is_white equals) ≡ false → (quote : ℕ) (inside : List ℕ) → is_delimiter quote ≡ true → ¬ IsEq (lines_of cs) (quote ∷ inside)
no_quote_behind cs equals front none quote inside d (t.IsEq.equals {mid = m} before after) =
    let there = space_there cs m 61 refl before in
    let same : there.0 ≡ equals = cons_rest (sym there.1 ∙ front) in
    let behind = space_there equals inside quote (quote_black quote d) (subst (λ l. MaySpace l (quote ∷ inside)) (sym there.2 ∙ ap lines_of same) after) in
    true≢false (sym (ap (begins_with is_delimiter) behind.1 ∙ d) ∙ none)

-- ---- the end of a tag

pub closes_cases : (cs : List ℕ) → closes_tag cs ≡ true → ((rest : List ℕ) × (cs ≡ 62 ∷ rest)) ⊎ ((rest : List ℕ) × (cs ≡ 47 ∷ 62 ∷ rest))
closes_cases [] e = absurd (false≢true e)
closes_cases (c ∷ []) e = ⊎_elim (λ one. inl ([], ap (λ a. a ∷ []) (eqb-true c 62 one))) (λ two. absurd (false≢true (and_parts (c == 47) false two).1)) (or_cases (c == 62) (c == 47 && false) e)
closes_cases (c ∷ d ∷ ds) e = ⊎_elim
    (λ one. inl (d ∷ ds, ap (λ a. a ∷ d ∷ ds) (eqb-true c 62 one)))
    (λ two. let both = and_parts (c == 47) (d == 62) two in inr (ds, ap (λ a. a ∷ d ∷ ds) (eqb-true c 47 both.0) ∙ ap (λ a. 47 ∷ a ∷ ds) (eqb-true d 62 both.1)))
    (or_cases (c == 62) (c == 47 && d == 62) e)

-- it begins with such a sign
pub record EndsTag (cs : List ℕ) : Type 0 where
  pub sign : ℕ
  pub rest : List ℕ
  pub is : cs ≡ sign ∷ rest
  pub ends : is_tag_end sign ≡ true

pub closes_end : (cs : List ℕ) → closes_tag cs ≡ true → EndsTag cs
closes_end cs e = ⊎_elim (λ one. record { sign = 62; rest = one.0; is = one.1; ends = refl }) (λ two. record { sign = 47; rest = 62 ∷ two.0; is = two.1; ends = refl }) (closes_cases cs e)

-- ---- declarations that may not be

declares_push : (written : List WrittenAttribute) (a : WrittenAttribute) (prefix uri : Text) → DeclaresAs a prefix uri → bindings (written ++ a ∷ []) ≡ bindings written ++ (record { prefix = prefix; uri = uri }) ∷ []
declares_push written a prefix uri declares =
    let make : Text → Text → Binding = λ p u. record { prefix = p; uri = u } in
    bindings_push written a ∙ ap (λ o. bindings written ++ binding_before a o []) declares.1 ∙ ap (λ p. bindings written ++ make p (encode_utf8_all a.value) ∷ []) declares.2 ∙ ap (λ u. bindings written ++ make prefix u ∷ []) declares.3

pub forbidden_adds : (a : WrittenAttribute) (prefix uri : Text) → DeclaresAs a prefix uri → ¬ MayBind (record { prefix = prefix; uri = uri }) → (written : List WrittenAttribute) → CannotAdd written a
forbidden_adds a prefix uri declares forbidden written may distinct =
    let b : Binding = record { prefix = prefix; uri = uri } in
    forbidden (got_all MayBind (bindings written ++ b ∷ []) (length (bindings written)) b (subst (All MayBind) (declares_push written a prefix uri declares) may) (got_last (bindings written) b))

pub repeated_adds : (a : WrittenAttribute) (prefix uri : Text) → DeclaresAs a prefix uri → (written : List WrittenAttribute) → IsBoundIn (bindings written) prefix → CannotAdd written a
repeated_adds a prefix uri declares written (k, c, there, same) may distinct =
    let b : Binding = record { prefix = prefix; uri = uri } in
    let all : AreDistinct (bindings written ++ b ∷ []) = subst AreDistinct (declares_push written a prefix uri declares) distinct in
    let within : k < length (bindings written) = slice_get_within (bindings written) k c there in
    let last : length (bindings written) < length (bindings written ++ b ∷ []) = omega (arith, length-append (bindings written) (b ∷ [])) in
    let apart = all k (length (bindings written)) b within last in
    let one : get_or (bindings written ++ b ∷ []) k b ≡ c = get_or_from_slice_get (bindings written ++ b ∷ []) k c b (got_left (bindings written) (b ∷ []) k c there) in
    let two : get_or (bindings written ++ b ∷ []) (length (bindings written)) b ≡ b = get_or_from_slice_get (bindings written ++ b ∷ []) (length (bindings written)) b b (got_last (bindings written) b) in
    apart (ap (λ (e : Binding). e.prefix) one ∙ same ∙ sym (ap (λ (e : Binding). e.prefix) two))

-- ---- an attribute

module _ (cs : List ℕ) (a : WrittenAttribute) (rest : List ℕ) where
  pub no_attribute_name : ((written prefix local behind : List ℕ) → ¬ BeginsName cs written prefix local behind) → ¬ IsAttribute cs a rest
  no_attribute_name none h = at cs a h none
    where
      at : (cs : List ℕ) (a : WrittenAttribute) → IsAttribute cs a rest → ((written prefix local behind : List ℕ) → ¬ BeginsName cs written prefix local behind) → ⊥
      at cs a (t.IsAttribute.attribute {name = n} {prefix = p} {local = l} {cs = f} {mid = m} is eq_sign val) none = none n p l f (record { is_name = is; splits = refl; ends = equals_ends f m eq_sign })

  module _ (name : QName) (behind : List ℕ) (splits : SplitsName cs name behind) (ends : ends_name behind ≡ true) where
    pub no_attribute_equals : ((quote : ℕ) (inside : List ℕ) → is_delimiter quote ≡ true → ¬ IsEq behind (quote ∷ inside)) → ¬ IsAttribute cs a rest
    no_attribute_equals none h = at cs a h splits.splits
      where
        at : (ds : List ℕ) (a : WrittenAttribute) → IsAttribute ds a rest → ds ≡ splits.written ++ behind → ⊥
        at ds a (t.IsAttribute.attribute {name = n} {prefix = p} {local = l} {value = v} {cs = f} {mid = m} is eq_sign val) e =
            let same = qname_once n p l f splits.written (chars name.prefix.now) (chars name.local.now) behind is splits.is_name (equals_ends f m eq_sign) ends e in
            let opens = value_opens m v rest val in
            none opens.quote opens.inside opens.delimits (subst (λ l. IsEq l (opens.quote ∷ opens.inside)) same.behind (subst (IsEq f) opens.is eq_sign))

    pub no_attribute_value : (quote : ℕ) (inside : List ℕ) → is_delimiter quote ≡ true → IsEq behind (quote ∷ inside) → ((value after : List ℕ) → ¬ IsValue quote inside value after) → ¬ IsAttribute cs a rest
    no_attribute_value quote inside delimits opened none h = at cs a h splits.splits
      where
        value_is : (m v : List ℕ) → IsAttValue m v rest → m ≡ quote ∷ inside → ⊥
        value_is m v (x.IsAttValue.double {cs = d} k) e = none v rest (subst (λ l. IsValue quote l v rest) (cons_rest e) (subst (λ q. IsValue q d v rest) (cons_first e) k))
        value_is m v (x.IsAttValue.single {cs = d} k) e = none v rest (subst (λ l. IsValue quote l v rest) (cons_rest e) (subst (λ q. IsValue q d v rest) (cons_first e) k))

        at : (ds : List ℕ) (a : WrittenAttribute) → IsAttribute ds a rest → ds ≡ splits.written ++ behind → ⊥
        at ds a (t.IsAttribute.attribute {name = n} {prefix = p} {local = l} {value = v} {cs = f} {mid = m} is eq_sign val) e =
            let same = qname_once n p l f splits.written (chars name.prefix.now) (chars name.local.now) behind is splits.is_name (equals_ends f m eq_sign) ends e in
            let opens = value_opens m v rest val in
            let first : opens.quote ∷ opens.inside ≡ quote ∷ inside =
            equals_once opens.quote quote f behind opens.inside inside (quote_black opens.quote opens.delimits) (quote_black quote delimits) (subst (IsEq f) opens.is eq_sign) opened same.behind in
            value_is m v val (opens.is ∙ first)

-- ---- the next attribute of a tag

pub lines_run : (cs : List ℕ) → after_run is_white (lines_of cs) ≡ lines_of (after_run is_white cs)
lines_run cs = at (after_run is_white cs) refl (space_lines cs)
  where
    at : (zs : List ℕ) → after_run is_white cs ≡ zs → MaySpace (lines_of cs) (lines_of zs) → after_run is_white (lines_of cs) ≡ lines_of zs
    at [] e s = white_all (lines_of cs) s
    at (d ∷ ds) e s =
        let black : is_white d ≡ false = stop_fails is_white cs d ds e in
        let itself : lines_of (d ∷ ds) ≡ d ∷ lines_of ds = inner_itself d ds (inner_black d black) in
        white_run (lines_of cs) (lines_of ds) d black (subst (MaySpace (lines_of cs)) itself s) ∙ sym itself

-- white space, an attribute and others
pub record IsNext (cs spaced : List ℕ) (more : List WrittenAttribute) (m : List ℕ) : Type 0 where
  pub a : WrittenAttribute
  pub others : List WrittenAttribute
  pub after : List ℕ
  pub is : more ≡ a ∷ others
  pub space : IsSpace cs spaced
  pub attribute : IsAttribute spaced a after
  pub behind : AreAttributes after others m

pub next_attribute : (cs ds : List ℕ) (c : ℕ) (after : List ℕ) (more : List WrittenAttribute) (m stop : List ℕ) → ds ≡ after_run is_white cs → ds ≡ c ∷ after → is_tag_end c ≡ false → AreAttributes (lines_of cs) more m → MaySpace m stop → closes_tag stop ≡ true
    → IsNext (lines_of cs) (lines_of ds) more m
next_attribute cs ds c after more m stop run first other h space closes = at (lines_of cs) more h refl
  where
    end : EndsTag stop
    end = closes_end stop closes

    black : is_white c ≡ false
    black = stop_fails is_white cs c after (sym run ∙ first)

    whole : lines_of ds ≡ c ∷ lines_of after
    whole = ap lines_of first ∙ inner_itself c after (inner_black c black)

    at : (xs : List ℕ) (more : List WrittenAttribute) → AreAttributes xs more m → xs ≡ lines_of cs → IsNext (lines_of cs) (lines_of ds) more m
    at xs more t.AreAttributes.none e =
        let ends : after_run is_white m ≡ end.sign ∷ end.rest = white_run m end.rest end.sign (end_black end.sign end.ends) (subst (MaySpace m) end.is space) in
        let same : end.sign ≡ c = cons_first (sym ends ∙ ap (after_run is_white) e ∙ lines_run cs ∙ ap lines_of (sym run) ∙ whole) in
        absurd (true≢false (sym end.ends ∙ ap is_tag_end same ∙ other))
    at xs more (t.AreAttributes.more {a = a} {written = w} {mid = b} {after = f} s one others) e =
        let begins = attribute_begins b a f one in
        let here : after_run is_white xs ≡ begins.first ∷ begins.behind =
        white_run xs begins.behind begins.first (start_black begins.first begins.starts) (subst (MaySpace xs) begins.is (some_white xs b s).1) in
        let spaced : b ≡ lines_of ds = begins.is ∙ sym here ∙ ap (after_run is_white) e ∙ lines_run cs ∙ ap lines_of (sym run) in
        record { a = a; others = w; after = f; is = refl; space = subst (λ l. IsSpace l (lines_of ds)) e (subst (IsSpace xs) spaced s); attribute = subst (λ l. IsAttribute l a f) spaced one; behind = others }

bindings_append : (xs ys : List WrittenAttribute) → bindings (xs ++ ys) ≡ bindings xs ++ bindings ys
bindings_append [] ys = refl
bindings_append (a ∷ xs) ys = before (declared_prefix a) (bindings_append xs ys)
  where
    before : (o : Option (List ℕ)) → bindings (xs ++ ys) ≡ bindings xs ++ bindings ys → binding_before a o (bindings (xs ++ ys)) ≡ binding_before a o (bindings xs) ++ bindings ys
    before None e = e
    before (Some p) e = let one : Binding = record { prefix = encode_utf8_all p; uri = encode_utf8_all a.value } in ap (λ l. one ∷ l) e

all_left : {X : Type 0} (P : X → Type 0) (xs ys : List X) → All P (xs ++ ys) → All P xs
all_left P xs ys all k d h = subst P (get_or_append_left xs ys d k h) (all k d (omega (arith, length-append xs ys)))

distinct_left : (xs ys : List Binding) → AreDistinct (xs ++ ys) → AreDistinct xs
distinct_left xs ys all i j d h g =
    let far : i < length xs = omega arith in
    subst (λ (b : Binding). b.prefix ≢ (get_or xs j d).prefix) (get_or_append_left xs ys d i far)
    (subst (λ (b : Binding). (get_or (xs ++ ys) i d).prefix ≢ b.prefix) (get_or_append_left xs ys d j g) (all i j d h (omega (arith, length-append xs ys))))

-- a tag doesn't go on behind such an attribute
pub cannot_go_on : (written others : List WrittenAttribute) (a : WrittenAttribute) → CannotAdd written a → All MayBind (bindings (written ++ a ∷ others)) → ¬ AreDistinct (bindings (written ++ a ∷ others))
cannot_go_on written others a cannot may distinct =
    let e : bindings (written ++ a ∷ others) ≡ bindings (written ++ a ∷ []) ++ bindings others = ap bindings (sym (append_assoc written (a ∷ []) others)) ∙ bindings_append (written ++ a ∷ []) others in
    cannot (all_left MayBind (bindings (written ++ a ∷ [])) (bindings others) (subst (All MayBind) e may)) (distinct_left (bindings (written ++ a ∷ [])) (bindings others) (subst AreDistinct e distinct))

-- what is read of the attributes, and what is left of them
pub lead_on : (cs mid rest : List ℕ) (first written : List WrittenAttribute) → AreAttributes cs first mid → (up : AreUpToEnd cs written rest) → LeadsOn first written mid up.mid
lead_on cs mid rest first written h up =
    let end = closes_end rest up.closes in
    attributes_lead cs cs first written mid up.mid end.rest end.sign h up.are (subst (MaySpace up.mid) end.is up.space) end.ends refl

pub no_end_sign : (c : ℕ) → c ≢ 62 → c ≢ 47 → is_tag_end c ≡ false
no_end_sign c a b = grind (arith, nat_tests)

-- the attribute that follows can't be read
pub next_refused : (cs spaced : List ℕ) (c : ℕ) (after : List ℕ) (source_cs : List ℕ) (first written : List WrittenAttribute) (rest : List ℕ) → spaced ≡ after_run is_white cs → spaced ≡ c ∷ after → is_tag_end c ≡ false
    → AreAttributes source_cs first (lines_of cs) → AreUpToEnd source_cs written rest → ((a : WrittenAttribute) (r : List ℕ) → IsSpace (lines_of cs) (lines_of spaced) → IsAttribute (lines_of spaced) a r → CannotAdd first a)
    → All MayBind (bindings written) → ¬ AreDistinct (bindings written)
next_refused cs spaced c after source_cs first written rest run begins other h up cannot may distinct =
    let on = lead_on source_cs (lines_of cs) rest first written h up in
    let next = next_attribute cs spaced c after on.more up.mid rest run begins other on.behind up.space up.closes in
    let whole : written ≡ first ++ next.a ∷ next.others = on.is ∙ ap (λ l. first ++ l) next.is in
    cannot_go_on first next.others next.a (cannot next.a next.after next.space next.attribute) (subst (λ l. All MayBind (bindings l)) whole may) (subst (λ l. AreDistinct (bindings l)) whole distinct)
