-- Attributes and tags are read in one way.
use Rattle.std.proofs.Common.{◌≡◌, ℕ, true, false, List, [], ◌∷◌, ◌++◌, refl, sym, ap, ◌∙◌, subst, arith, append-nil}
use Rattle.std.proofs.lemmas.Bool.{and_parts, true≢false, false≢true, both_ways}
use Rattle.std.proofs.lemmas.Bool.Decides.{nat_tests}
use Rattle.std.proofs.lemmas.List.{append_cancel_left}
use Rattle.rn_text.specs.Characters.{is_name_char, is_name_start, is_ncname}
use Rattle.std.specs.List.{list_all}
use Rattle.rn_text.specs.Segments.{begins_with, after_run, is_delimiter}
use Rattle.rn_text.specs.Texts.{is_white}
use Rattle.rn_text.proofs.Words.EqualLists.{cons_first, cons_rest}
use Rattle.rn_xml.specs.Infoset.{Name, Attribute, Binding}
use Rattle.rn_xml.specs.XmlCharacters.{MaySpace, IsSpace, IsAttValue}
use Rattle.rn_xml.specs.XmlCharacters as x
use Rattle.rn_xml.specs.XmlTags.{IsEq, IsQName, IsAttribute, AreAttributes, WrittenAttribute, Scope, IsTagFront, IsEndTag, bindings}
use Rattle.rn_xml.specs.XmlTags as t
use Rattle.rn_xml.specs.inside.Fronts.{ends_name, is_tag_end}
use Rattle.rn_xml.proofs.Decoding.DeclarationFields.{white_run, some_white}
use Rattle.rn_xml.proofs.Refusals.OneReading.Names.{qname_once, equals_ends, space_ends, some_space_ends, end_ends, some_space_once, equals_once}
use Rattle.rn_xml.proofs.Refusals.OneReading.Values.{att_value_once}

-- ---- attributes

-- a value opens with a quote
pub record Opens (cs : List ℕ) : Type 0 where
  pub quote : ℕ
  pub inside : List ℕ
  pub is : cs ≡ quote ∷ inside
  pub delimits : is_delimiter quote ≡ true

pub value_opens : (cs value rest : List ℕ) → IsAttValue cs value rest → Opens cs
value_opens cs value rest (x.IsAttValue.double {cs = ds} h) = record { quote = 34; inside = ds; is = refl; delimits = refl }
value_opens cs value rest (x.IsAttValue.single {cs = ds} h) = record { quote = 39; inside = ds; is = refl; delimits = refl }

pub quote_black : (c : ℕ) → is_delimiter c ≡ true → is_white c ≡ false
quote_black c d = grind (arith, nat_tests)

values_once : (cs ds m n v w r s : List ℕ) → IsEq cs m → IsAttValue m v r → IsEq ds n → IsAttValue n w s → cs ≡ ds → (v ≡ w) × (r ≡ s)
values_once cs ds m n v w r s h val k wal e =
    let a = value_opens m v r val in
    let b = value_opens n w s wal in
    let same : m ≡ n = a.is ∙ equals_once a.quote b.quote cs ds a.inside b.inside (quote_black a.quote a.delimits) (quote_black b.quote b.delimits) (subst (IsEq cs) a.is h) (subst (IsEq ds) b.is k) e ∙ sym b.is in
    att_value_once m n v w r s val wal same

pub attribute_once : (cs ds : List ℕ) (a b : WrittenAttribute) (r s : List ℕ) → IsAttribute cs a r → IsAttribute ds b s → cs ≡ ds → (a ≡ b) × (r ≡ s)
attribute_once cs ds a b r s (t.IsAttribute.attribute {name = n} {prefix = p} {local = l} {value = v} {cs = f} {mid = m} is eq_sign val) (t.IsAttribute.attribute {name = n2} {prefix = p2} {local = l2} {value = v2} {cs = f2} {mid = m2} is2 eq_sign2 val2) e =
    let same = qname_once n p l f n2 p2 l2 f2 is is2 (equals_ends f m eq_sign) (equals_ends f2 m2 eq_sign2) e in
    let values = values_once f f2 m m2 v v2 r s eq_sign val eq_sign2 val2 same.behind in
    let make : List ℕ → List ℕ → List ℕ → WrittenAttribute = λ p l v. record { prefix = p; local = l; value = v } in
    (ap (λ q. make q l v) same.prefix ∙ ap (λ q. make p2 q v) same.local ∙ ap (make p2 l2) values.0, values.1)

-- an attribute begins as a name does
pub record BeginsAsName (cs : List ℕ) : Type 0 where
  pub first : ℕ
  pub behind : List ℕ
  pub is : cs ≡ first ∷ behind
  pub starts : is_name_start first ≡ true

ncname_begins : (name behind : List ℕ) → is_ncname name ≡ true → BeginsAsName (name ++ behind)
ncname_begins [] behind n = absurd (false≢true n)
ncname_begins (c ∷ cs) behind n = record { first = c; behind = cs ++ behind; is = refl; starts = (and_parts (is_name_start c) (list_all is_name_char cs) n).0 }

prefix_begins : (name more behind : List ℕ) → is_ncname name ≡ true → BeginsAsName ((name ++ more) ++ behind)
prefix_begins [] more behind n = absurd (false≢true n)
prefix_begins (c ∷ cs) more behind n = record { first = c; behind = (cs ++ more) ++ behind; is = refl; starts = (and_parts (is_name_start c) (list_all is_name_char cs) n).0 }

pub qname_begins : (name prefix local behind : List ℕ) → IsQName name prefix local → BeginsAsName (name ++ behind)
qname_begins name prefix local behind (t.IsQName.unprefixed n) = ncname_begins local behind n
qname_begins name prefix local behind (t.IsQName.prefixed n m) = prefix_begins prefix (58 ∷ local) behind n

pub attribute_begins : (cs : List ℕ) (a : WrittenAttribute) (rest : List ℕ) → IsAttribute cs a rest → BeginsAsName cs
attribute_begins cs a rest (t.IsAttribute.attribute {name = n} {prefix = p} {local = l} {cs = f} is eq_sign val) = qname_begins n p l f is

pub start_black : (c : ℕ) → is_name_start c ≡ true → is_white c ≡ false
unfolding is_name_start
start_black c n = grind (arith, nat_tests)

pub end_black : (c : ℕ) → is_tag_end c ≡ true → is_white c ≡ false
end_black c e = grind (arith, nat_tests)

pub start_other : (c : ℕ) → is_name_start c ≡ true → is_tag_end c ≡ false
unfolding is_name_start
start_other c n = grind (arith, nat_tests)

-- behind white space an attribute begins, and no tag ends there
pub spaced_name : (cs mid m rest : List ℕ) (e : ℕ) → BeginsAsName mid → IsSpace cs mid → MaySpace m (e ∷ rest) → is_tag_end e ≡ true → cs ≡ m → ⊥
spaced_name cs mid m rest e begins s space is same =
    let one : after_run is_white cs ≡ begins.first ∷ begins.behind =
    white_run cs begins.behind begins.first (start_black begins.first begins.starts) (subst (MaySpace cs) begins.is (some_white cs mid s).1) in
    let two : after_run is_white m ≡ e ∷ rest = white_run m rest e (end_black e is) space in
    let first : begins.first ≡ e = cons_first (sym one ∙ ap (after_run is_white) same ∙ two) in
    true≢false (sym is ∙ ap is_tag_end (sym first) ∙ start_other begins.first begins.starts)

-- the attributes that are read lead on to the end of the tag
pub record LeadsOn (first written : List WrittenAttribute) (mid rest : List ℕ) : Type 0 where
  pub more : List WrittenAttribute
  pub is : written ≡ first ++ more
  pub behind : AreAttributes mid more rest

pub attributes_lead : (cs ds : List ℕ) (first written : List WrittenAttribute) (mid m rest : List ℕ) (e : ℕ) → AreAttributes cs first mid → AreAttributes ds written m → MaySpace m (e ∷ rest) → is_tag_end e ≡ true → cs ≡ ds
    → LeadsOn first written mid m
attributes_lead cs ds first written mid m rest e t.AreAttributes.none k space is same = record { more = written; is = refl; behind = subst (λ l. AreAttributes l written m) (sym same) k }
attributes_lead cs ds first written mid m rest e (t.AreAttributes.more {a = a} {mid = b} {after = f} s h others) t.AreAttributes.none space is same =
    absurd (spaced_name cs b m rest e (attribute_begins b a f h) s space is same)
attributes_lead cs ds first written mid m rest e (t.AreAttributes.more {a = a} {written = p} {mid = b} {after = f} s h others) (t.AreAttributes.more {a = a2} {written = q} {mid = b2} {after = f2} s2 h2 others2) space is same =
    let one = attribute_begins b a f h in
    let two = attribute_begins b2 a2 f2 h2 in
    let mids : b ≡ b2 = one.is ∙ some_space_once one.first two.first cs ds one.behind two.behind (start_black one.first one.starts) (start_black two.first two.starts) (subst (IsSpace cs) one.is s) (subst (IsSpace ds) two.is s2) same ∙ sym two.is in
    let both = attribute_once b b2 a a2 f f2 h h2 mids in
    let on = attributes_lead f f2 p q mid m rest e others others2 space is both.1 in
    record { more = on.more; is = ap (λ (n : WrittenAttribute). n ∷ q) (sym both.0) ∙ ap (λ l. a ∷ l) on.is; behind = on.behind }

-- where the tag ends, no attribute is left
pub attributes_once : (cs : List ℕ) (first written : List WrittenAttribute) (mid m rest stop : List ℕ) (e : ℕ) → AreAttributes cs first mid → MaySpace mid stop → begins_with is_name_start stop ≡ false → AreAttributes cs written m
    → MaySpace m (e ∷ rest) → is_tag_end e ≡ true → after_run is_white mid ≡ stop → (written ≡ first) × (stop ≡ e ∷ rest)
attributes_once cs first written mid m rest stop e h space stops k space2 is run = last (attributes_lead cs cs first written mid m rest e h k space2 is refl)
  where
    none : (mid m : List ℕ) (more : List WrittenAttribute) → written ≡ first ++ more → AreAttributes mid more m → MaySpace m (e ∷ rest) → after_run is_white mid ≡ stop → (written ≡ first) × (stop ≡ e ∷ rest)
    none mid m more w t.AreAttributes.none space2 run = (w ∙ append-nil first, sym run ∙ white_run m rest e (end_black e is) space2)
    none mid m more w (t.AreAttributes.more {a = a} {mid = b} {after = f} s one others) space2 run =
        let begins = attribute_begins b a f one in
        let at : after_run is_white mid ≡ begins.first ∷ begins.behind =
        white_run mid begins.behind begins.first (start_black begins.first begins.starts) (subst (MaySpace mid) begins.is (some_white mid b s).1) in
        absurd (both_ways (begins_with is_name_start stop) stops (ap (begins_with is_name_start) (sym run ∙ at) ∙ begins.starts))

    last : LeadsOn first written mid m → (written ≡ first) × (stop ≡ e ∷ rest)
    last on = none mid m on.more on.is on.behind space2 run

-- ---- tags

attributes_end : (cs mid rest : List ℕ) (written : List WrittenAttribute) (e : ℕ) → AreAttributes cs written mid → MaySpace mid (e ∷ rest) → is_tag_end e ≡ true → ends_name cs ≡ true
attributes_end cs mid rest written e t.AreAttributes.none space is = space_ends cs (e ∷ rest) space (end_ends e rest is)
attributes_end cs mid rest written e (t.AreAttributes.more {mid = m} s h others) space is = some_space_ends cs m s

pub front_ends : (around : Scope) (cs qname : List ℕ) (name : Name) (bound : List Binding) (attributes : List Attribute) (e : ℕ) (rest : List ℕ) (front : IsTagFront around cs qname name bound attributes (e ∷ rest)) → is_tag_end e ≡ true
    → ends_name front.behind_name ≡ true
front_ends around cs qname name bound attributes e rest front is = attributes_end front.behind_name front.behind_attributes rest front.written e front.are_attributes front.space is

pub end_stops : (e : ℕ) (rest : List ℕ) → is_tag_end e ≡ true → begins_with is_name_start (e ∷ rest) ≡ false
unfolding is_name_start
end_stops e rest is = grind (arith, nat_tests)

pub tag_front_once : (around : Scope) (cs q q2 : List ℕ) (n n2 : Name) (b b2 : List Binding) (a a2 : List Attribute) (e e2 : ℕ) (r r2 : List ℕ) → IsTagFront around cs q n b a (e ∷ r) → IsTagFront around cs q2 n2 b2 a2 (e2 ∷ r2)
    → is_tag_end e ≡ true → is_tag_end e2 ≡ true → (q ≡ q2) × (b ≡ b2) × (e ∷ r ≡ e2 ∷ r2)
tag_front_once around cs q q2 n n2 b b2 a a2 e e2 r r2 h k is is2 =
    let same = qname_once q h.prefix h.local h.behind_name q2 k.prefix k.local k.behind_name h.is_name k.is_name (front_ends around cs q n b a e r h is) (front_ends around cs q2 n2 b2 a2 e2 r2 k is2)
    (cons_rest (sym h.opens ∙ k.opens)) in
    let both = attributes_once k.behind_name h.written k.written h.behind_attributes k.behind_attributes r2 (e ∷ r) e2 (subst (λ l. AreAttributes l h.written h.behind_attributes) same.behind h.are_attributes) h.space
    (end_stops e r is) k.are_attributes k.space is2 (white_run h.behind_attributes r e (end_black e is) h.space) in
    (same.name, h.declares ∙ ap bindings (sym both.0) ∙ sym k.declares, both.1)

pub end_tag_once : (qname cs r s : List ℕ) → IsEndTag qname cs r → IsEndTag qname cs s → r ≡ s
end_tag_once qname cs r s h k = same cs cs r s h k refl
  where
    same : (cs ds r s : List ℕ) → IsEndTag qname cs r → IsEndTag qname ds s → cs ≡ ds → r ≡ s
    same cs ds r s (t.IsEndTag.closes {cs = a} m) (t.IsEndTag.closes {cs = b} n) e =
        let tails : a ≡ b = append_cancel_left qname a b (cons_rest (cons_rest e)) in
        cons_rest (sym (white_run a r 62 refl m) ∙ ap (after_run is_white) tails ∙ white_run b s 62 refl n)
