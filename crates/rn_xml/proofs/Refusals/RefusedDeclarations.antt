-- XML declarations that are none.
use Rattle.std.proofs.Common.{◌≡◌, ◌≢◌, ◌-◌, ℕ, Bool, true, false, List, [], ◌∷◌, ◌++◌, length, get_or, take, drop, refl, sym, ap, ◌∙◌, subst, arith, inr, Bor, Some, None}
use Rattle.std.specs.Prelude.{◌==◌, ◌↔◌, codes, EachIndex, IsTrue, Option, MatchOption, Result, Ok, Err, IfOk, IfErr}
use Rattle.std.specs.Char.{is_ascii, is_ascii_alphabetic}
use Rattle.std.specs.List.{list_all}
use Rattle.std.specs.Str.{IsUtf8, chars}
use Rattle.std.proofs.lemmas.Bool.{and_from, true≢false, false≢true}
use Rattle.std.proofs.lemmas.Bool.Decides.{nat_tests}
use Rattle.std.proofs.lemmas.List.{append_cancel_left, take_all}
use Rattle.std.proofs.lemmas.Option.{none-some}
use Rattle.std.specs.Result.{result_ok}
use Rattle.rn_text.specs.Characters.{is_name_char, is_name_start, is_ncname}
use Rattle.rn_text.specs.Segments.{begins_with, after_run, run_of}
use Rattle.rn_text.specs.Texts.{is_white}
use Rattle.rn_text.proofs.Cutting.NameTokens.{name_chars}
use Rattle.rn_text.proofs.Words.EqualLists.{cons_first, cons_rest}
use Rattle.rn_xml.specs.XmlCharacters.{lines_of, MaySpace, IsSpace, IsTarget, IsInstruction, AreMisc}
use Rattle.rn_xml.specs.XmlCharacters as x
use Rattle.rn_xml.specs.XmlDocuments.{IsVersionInfo, IsVersionNum, IsEncName, MayDeclareEncoding, MayBeStandalone, MayDeclare, is_encoding_char}
use Rattle.rn_xml.specs.XmlDocuments as d
use Rattle.rn_xml.specs.inside.Declared.{ClosesDeclaration, EndsDeclaration, HasRoot, IsDeclaration, IsOnlyField, LacksField, OpensNone, is_unquoted}
use Rattle.rn_xml.specs.inside.Fronts.{opens_tag}
use Rattle.rn_xml.specs.inside.Pieces.{IsNamedField, is_inner}
use Rattle.rn_xml.proofs.Decoding.DeclarationFields.{space_there, white_run, some_white}
use Rattle.rn_xml.proofs.Decoding.DeclarationParts.{letter_plain, encoding_ascii, encoding_inner}
use Rattle.rn_xml.proofs.Decoding.DeclarationVersions.{all_each, lines_same}
use Rattle.rn_xml.proofs.Decoding.NamedEncodings.{unquoted_version}
use Rattle.rn_xml.proofs.Numbers.{all_pass_too, named_by}
use Rattle.rn_xml.proofs.Refusals.OneReading.FirstCharacters.{kind_of, comment_kind}
use Rattle.rn_xml.proofs.Refusals.OneReading.Markup.{instruction_parts, run_of_name}
use Rattle.rn_xml.proofs.Sources.{front_there, inner_itself}

-- ---- words

-- a word of ASCII without line ends is there before its line ends are line feeds
pub word_there : (word text : List ℕ) → IsUtf8 text → list_all is_ascii word ≡ true → list_all is_inner word ≡ true → lines_of (chars text) ≡ word → text ≡ word
word_there word text t ascii inner e = named_by word text t ascii (lines_same word (chars text) inner e)

letter_unquoted : (c : ℕ) → is_ascii_alphabetic c ≡ true → is_unquoted c ≡ true
letter_unquoted c h = grind (arith, nat_tests)

encoding_unquoted : (c : ℕ) → is_encoding_char c ≡ true → is_unquoted c ≡ true
encoding_unquoted c h = grind (arith, nat_tests)

unquoted_encoding : (name : List ℕ) → IsEncName name → list_all is_unquoted name ≡ true
unquoted_encoding name (d.IsEncName.name {c = c} {cs = cs} first all) = and_from (is_unquoted c) (list_all is_unquoted cs) (letter_unquoted c first) (all_pass_too is_encoding_char is_unquoted encoding_unquoted cs all)

-- the name of an encoding, in bytes
pub record IsEncBytes (text : List ℕ) : Type 0 where
  pub first : ℕ
  pub rest : List ℕ
  pub is : text ≡ first ∷ rest
  pub letter : is_ascii_alphabetic first ≡ true
  pub all : list_all is_encoding_char rest ≡ true

pub encoding_bytes : (text name : List ℕ) → IsUtf8 text → IsEncName name → lines_of (chars text) ≡ name → IsEncBytes text
encoding_bytes text name t (d.IsEncName.name {c = c} {cs = cs} first all) e = record {
  first = c;
  rest = cs;
  is = word_there (c ∷ cs) text t (and_from (is_ascii c) (list_all is_ascii cs) (letter_plain c first).0 (all_pass_too is_encoding_char is_ascii encoding_ascii cs all))
      (and_from (is_inner c) (list_all is_inner cs) (letter_plain c first).1 (all_pass_too is_encoding_char is_inner encoding_inner cs all)) e;
  letter = first;
  all = all;
}

-- whether the bytes name an encoding
pub names_encoding : (text : List ℕ) (all : Bool) → IsUtf8 text → IsTrue all ↔ EachIndex (take (length text - 1) (drop 1 text)) (λ k. is_encoding_char (get_or (take (length text - 1) (drop 1 text)) k 0) ≡ true)
    → IsEncName (lines_of (chars text)) → all ≡ true
names_encoding text all t each n =
    let is = encoding_bytes text (lines_of (chars text)) t n refl in
    let rest : take (length text - 1) (drop 1 text) ≡ is.rest = ap (λ l. take (length l - 1) (drop 1 l)) is.is ∙ take_all (length (is.first ∷ is.rest) - 1) is.rest (omega arith) in
    each.1 (all_each is_encoding_char (take (length text - 1) (drop 1 text)) (ap (list_all is_encoding_char) rest ∙ is.all))

-- ---- which field is next

same_first : (cs a b : List ℕ) (c e : ℕ) → is_white c ≡ false → is_white e ≡ false → MaySpace cs (c ∷ a) → MaySpace cs (e ∷ b) → c ≡ e
same_first cs a b c e black black2 m n = cons_first (sym (white_run cs a c black m) ∙ white_run cs b e black2 n)

field_space : (c : ℕ) (name cs value rest : List ℕ) → (f : IsNamedField (c ∷ name) cs value rest) → MaySpace cs (c ∷ (name ++ f.mid))
field_space c name cs value rest f = (some_white cs (c ∷ (name ++ f.mid)) f.space).1

differ : (a b : ℕ) → (a == b) ≡ false → a ≢ b
differ a b n e = grind (arith, nat_tests)

-- ---- standalone

pub standalone_none : (cs rest : List ℕ) → LacksField (codes "standalone") cs → ClosesDeclaration cs rest → MaySpace cs (63 ∷ 62 ∷ rest)
standalone_none cs rest lacks (behind, s, space) = at cs behind s lacks space
  where
    at : (cs behind : List ℕ) → MayBeStandalone cs behind → LacksField (codes "standalone") cs → MaySpace behind (63 ∷ 62 ∷ rest) → MaySpace cs (63 ∷ 62 ∷ rest)
    at cs behind d.MayBeStandalone.none lacks space = space
    at cs behind (d.MayBeStandalone.yes {mid = m} {after = a} s e q) lacks space = absurd (lacks (codes "yes") behind (record { mid = m; after = a; space = s; equals = e; quoted = q }))
    at cs behind (d.MayBeStandalone.no {mid = m} {after = a} s e q) lacks space = absurd (lacks (codes "no") behind (record { mid = m; after = a; space = s; equals = e; quoted = q }))

module _ (cs value left : List ℕ) (f : IsNamedField (codes "standalone") cs value left) (only : IsOnlyField (codes "standalone") cs value left) where
  not_closed : (rest : List ℕ) → MaySpace cs (63 ∷ 62 ∷ rest) → ⊥
  not_closed rest m = differ 63 115 refl (same_first cs (62 ∷ rest) (codes "tandalone" ++ f.mid) 63 115 refl refl m (field_space 115 (codes "tandalone") cs value left f))

  pub standalone_some : (rest : List ℕ) → ClosesDeclaration cs rest → MaySpace left (63 ∷ 62 ∷ rest)
  standalone_some rest (behind, s, space) = at cs behind s refl space
    where
      at : (ds behind : List ℕ) → MayBeStandalone ds behind → ds ≡ cs → MaySpace behind (63 ∷ 62 ∷ rest) → MaySpace left (63 ∷ 62 ∷ rest)
      at ds behind d.MayBeStandalone.none e space = absurd (not_closed rest (subst (λ l. MaySpace l (63 ∷ 62 ∷ rest)) e space))
      at ds behind (d.MayBeStandalone.yes {mid = m} {after = a} s q v) e space =
          let same = only (codes "yes") behind (record { mid = m; after = a; space = subst (λ l. IsSpace l (codes "standalone" ++ m)) e s; equals = q; quoted = v }) refl in
          subst (λ l. MaySpace l (63 ∷ 62 ∷ rest)) same.1 space
      at ds behind (d.MayBeStandalone.no {mid = m} {after = a} s q v) e space =
          let same = only (codes "no") behind (record { mid = m; after = a; space = subst (λ l. IsSpace l (codes "standalone" ++ m)) e s; equals = q; quoted = v }) refl in
          subst (λ l. MaySpace l (63 ∷ 62 ∷ rest)) same.1 space

  pub standalone_wrong : value ≢ codes "yes" → value ≢ codes "no" → (rest : List ℕ) → ¬ ClosesDeclaration cs rest
  standalone_wrong affirmed denied rest (behind, s, space) = at cs behind s refl space
    where
      at : (ds behind : List ℕ) → MayBeStandalone ds behind → ds ≡ cs → MaySpace behind (63 ∷ 62 ∷ rest) → ⊥
      at ds behind d.MayBeStandalone.none e space = not_closed rest (subst (λ l. MaySpace l (63 ∷ 62 ∷ rest)) e space)
      at ds behind (d.MayBeStandalone.yes {mid = m} {after = a} s q v) e space =
          affirmed (sym (only (codes "yes") behind (record { mid = m; after = a; space = subst (λ l. IsSpace l (codes "standalone" ++ m)) e s; equals = q; quoted = v }) refl).0)
      at ds behind (d.MayBeStandalone.no {mid = m} {after = a} s q v) e space =
          denied (sym (only (codes "no") behind (record { mid = m; after = a; space = subst (λ l. IsSpace l (codes "standalone" ++ m)) e s; equals = q; quoted = v }) refl).0)

-- ---- the encoding

pub encoding_none : (cs rest : List ℕ) → LacksField (codes "encoding") cs → EndsDeclaration cs rest → ClosesDeclaration cs rest
encoding_none cs rest lacks (after, s, closes) = at cs after s lacks closes
  where
    at : (cs after : List ℕ) → MayDeclareEncoding cs after → LacksField (codes "encoding") cs → ClosesDeclaration after rest → ClosesDeclaration cs rest
    at cs after d.MayDeclareEncoding.none lacks closes = closes
    at cs after (d.MayDeclareEncoding.encoding {name = n} {mid = m} {after = a} s e q v) lacks closes = absurd (lacks n after (record { mid = m; after = a; space = s; equals = e; quoted = q }))

module _ (cs value left : List ℕ) (f : IsNamedField (codes "encoding") cs value left) (only : IsOnlyField (codes "encoding") cs value left) where
  not_ended : (rest : List ℕ) → ¬ ClosesDeclaration cs rest
  not_ended rest (behind, s, space) = at cs behind s refl space
    where
      here : MaySpace cs (101 ∷ (codes "ncoding" ++ f.mid))
      here = field_space 101 (codes "ncoding") cs value left f

      named : (m : List ℕ) → IsSpace cs (codes "standalone" ++ m) → ⊥
      named m s = differ 115 101 refl (same_first cs (codes "tandalone" ++ m) (codes "ncoding" ++ f.mid) 115 101 refl refl (some_white cs (codes "standalone" ++ m) s).1 here)

      at : (ds behind : List ℕ) → MayBeStandalone ds behind → ds ≡ cs → MaySpace behind (63 ∷ 62 ∷ rest) → ⊥
      at ds behind d.MayBeStandalone.none e space = differ 63 101 refl (same_first cs (62 ∷ rest) (codes "ncoding" ++ f.mid) 63 101 refl refl (subst (λ l. MaySpace l (63 ∷ 62 ∷ rest)) e space) here)
      at ds behind (d.MayBeStandalone.yes {mid = m} s q v) e space = named m (subst (λ l. IsSpace l (codes "standalone" ++ m)) e s)
      at ds behind (d.MayBeStandalone.no {mid = m} s q v) e space = named m (subst (λ l. IsSpace l (codes "standalone" ++ m)) e s)

  pub encoding_some : (rest : List ℕ) → EndsDeclaration cs rest → ClosesDeclaration left rest
  encoding_some rest (after, s, closes) = at cs after s refl closes
    where
      at : (ds after : List ℕ) → MayDeclareEncoding ds after → ds ≡ cs → ClosesDeclaration after rest → ClosesDeclaration left rest
      at ds after d.MayDeclareEncoding.none e closes = absurd (not_ended rest (subst (λ l. ClosesDeclaration l rest) e closes))
      at ds after (d.MayDeclareEncoding.encoding {name = n} {mid = m} {after = a} s q v is) e closes =
          let same = only n after (record { mid = m; after = a; space = subst (λ l. IsSpace l (codes "encoding" ++ m)) e s; equals = q; quoted = v }) (unquoted_encoding n is) in
          subst (λ l. ClosesDeclaration l rest) same.1 closes

  pub encoding_wrong : ¬ IsEncName value → (rest : List ℕ) → ¬ EndsDeclaration cs rest
  encoding_wrong none rest (after, s, closes) = at cs after s refl closes
    where
      at : (ds after : List ℕ) → MayDeclareEncoding ds after → ds ≡ cs → ClosesDeclaration after rest → ⊥
      at ds after d.MayDeclareEncoding.none e closes = not_ended rest (subst (λ l. ClosesDeclaration l rest) e closes)
      at ds after (d.MayDeclareEncoding.encoding {name = n} {mid = m} {after = a} s q v is) e closes =
          none (subst IsEncName (only n after (record { mid = m; after = a; space = subst (λ l. IsSpace l (codes "encoding" ++ m)) e s; equals = q; quoted = v }) (unquoted_encoding n is)).0 is)

-- ---- the version

-- a version is a field
record VersionField (cs mid : List ℕ) : Type 0 where
  number : List ℕ
  field : IsNamedField (codes "version") cs number mid
  is_number : IsVersionNum number

version_field : (cs mid : List ℕ) → IsVersionInfo cs mid → VersionField cs mid
version_field cs mid (d.IsVersionInfo.version {number = n} {mid = m} {after = a} s e q v) = record { number = n; field = record { mid = m; after = a; space = s; equals = e; quoted = q }; is_number = v }

pub version_none : (cs : List ℕ) → LacksField (codes "version") cs → (rest : List ℕ) → ¬ IsDeclaration cs rest
version_none cs lacks rest (mid, v, ends) = let f = version_field cs mid v in lacks f.number mid f.field

module _ (cs value left : List ℕ) (only : IsOnlyField (codes "version") cs value left) where
  pub version_wrong : ¬ IsVersionNum value → (rest : List ℕ) → ¬ IsDeclaration cs rest
  version_wrong none rest (mid, v, ends) = let f = version_field cs mid v in none (subst IsVersionNum (only f.number mid f.field (unquoted_version f.number f.is_number)).0 f.is_number)

  pub behind_version : (rest : List ℕ) → IsDeclaration cs rest → EndsDeclaration left rest
  behind_version rest (mid, v, ends) = let f = version_field cs mid v in subst (λ l. EndsDeclaration l rest) (only f.number mid f.field (unquoted_version f.number f.is_number)).1 ends

-- ---- the end

pub end_read : (cs spaced : List ℕ) (r : Option (Bor (List ℕ))) → spaced ≡ after_run is_white cs → MatchOption r ((behind : List ℕ) → spaced ≢ codes "?>" ++ behind) (λ l. spaced ≡ codes "?>" ++ chars l.now)
    → MatchOption r ((rest : List ℕ) → ¬ MaySpace (lines_of cs) (63 ∷ 62 ∷ rest)) (λ l. (rest : List ℕ) → MaySpace (lines_of cs) (63 ∷ 62 ∷ rest) → lines_of (chars l.now) ≡ rest)
end_read cs spaced None run h = λ rest m.
    let there = space_there cs (62 ∷ rest) 63 refl m in
    let front = front_there (62 ∷ []) there.0 rest refl there.2 in
    h front.0 (run ∙ there.1 ∙ ap (λ l. 63 ∷ l) front.1)
end_read cs spaced (Some l) run h = λ rest m.
    let there = space_there cs (62 ∷ rest) 63 refl m in
    let same : there.0 ≡ 62 ∷ chars l.now = cons_rest (sym there.1 ∙ sym run ∙ h) in
    cons_rest (sym (inner_itself 62 (chars l.now) refl) ∙ ap lines_of (sym same) ∙ there.2)

-- ---- the whole

reserved : ¬ IsTarget (codes "xml")
reserved t = t.not_reserved 120 109 108 (inr refl) (inr refl) (inr refl) refl

xml_kept : is_ncname (codes "xml") ≡ true
unfolding is_name_char is_name_start
xml_kept = refl

-- `<?xml` begins no instruction
no_instruction_named : (inside rest : List ℕ) → begins_with is_name_char inside ≡ false → ¬ IsInstruction (codes "<?xml" ++ inside) rest
no_instruction_named inside rest stops h =
    let p = instruction_parts (codes "<?xml" ++ inside) rest h in
    let both : codes "xml" ++ inside ≡ p.name ++ p.tail = append_cancel_left (codes "<?") (codes "xml" ++ inside) (p.name ++ p.tail) p.is in
    let one = run_of_name is_name_char (codes "xml") inside (name_chars (codes "xml") xml_kept) stops in
    let two = run_of_name is_name_char p.name p.tail (name_chars p.name p.is_target.is_name) p.stops in
    reserved (subst IsTarget (sym two.0 ∙ ap (run_of is_name_char) (sym both) ∙ one.0) p.is_target)

no_misc_named : (cs inside root : List ℕ) → cs ≡ codes "<?xml" ++ inside → begins_with is_name_char inside ≡ false → AreMisc cs root → opens_tag root ≡ true → ⊥
no_misc_named cs inside root e stops x.AreMisc.none t = false≢true (ap opens_tag (sym e) ∙ t)
no_misc_named cs inside root e stops (x.AreMisc.white {c = c} {cs = f} w h) t = true≢false (sym w ∙ ap is_white (cons_first e))
no_misc_named cs inside root e stops (x.AreMisc.comment {mid = m} s h) t = let k = comment_kind cs m s in let four : kind_of cs ≡ 4 = ap kind_of e in absurd (omega arith)
no_misc_named cs inside root e stops (x.AreMisc.instruction {mid = m} s h) t = no_instruction_named inside m stops (subst (λ l. IsInstruction l m) e s)

-- a declaration is behind its front
pub declaration_parts : (cs inside mid root : List ℕ) → cs ≡ codes "<?xml" ++ inside → begins_with is_name_char inside ≡ false → MayDeclare cs mid → AreMisc mid root → opens_tag root ≡ true → IsDeclaration inside mid
declaration_parts cs inside mid root e stops d.MayDeclare.none misc t = absurd (no_misc_named cs inside root e stops misc t)
declaration_parts cs inside mid root e stops (d.MayDeclare.declares {cs = f} {mid = m} {after = a} {behind = b} v n s space) misc t =
    let same : f ≡ inside = append_cancel_left (codes "<?xml") f inside e in
    (m, subst (λ l. IsVersionInfo l m) same v, (a, n, (b, s, space)))

pub no_declaration : (cs : List ℕ) → OpensNone cs → (root : List ℕ) → HasRoot cs root → AreMisc cs root
no_declaration cs none root (mid, m, misc, t) = at cs mid m none misc
  where
    at : (cs mid : List ℕ) → MayDeclare cs mid → OpensNone cs → AreMisc mid root → AreMisc cs root
    at cs mid d.MayDeclare.none none misc = misc
    at cs mid (d.MayDeclare.declares {cs = f} {mid = m} v n s space) none misc = absurd (let i = version_field f m v in none f (codes "version" ++ i.field.mid) refl i.field.space)

pub declaration_refused : (cs inside : List ℕ) → cs ≡ codes "<?xml" ++ inside → begins_with is_name_char inside ≡ false → ((rest : List ℕ) → ¬ IsDeclaration inside rest) → (root : List ℕ) → ¬ HasRoot cs root
declaration_refused cs inside e stops none root (mid, m, misc, t) = none mid (declaration_parts cs inside mid root e stops m misc t)

pub declaration_only : (cs inside left : List ℕ) → cs ≡ codes "<?xml" ++ inside → begins_with is_name_char inside ≡ false → ((rest : List ℕ) → IsDeclaration inside rest → left ≡ rest) → (root : List ℕ) → HasRoot cs root → AreMisc left root
declaration_only cs inside left e stops only root (mid, m, misc, t) = subst (λ l. AreMisc l root) (sym (only mid (declaration_parts cs inside mid root e stops m misc t))) misc

-- ---- answers

module _ (cs inside : List ℕ) (e : cs ≡ codes "<?xml" ++ inside) (stops : begins_with is_name_char inside ≡ false) where
  pub inside_only : {E : Type 0} (o : Option (Bor (List ℕ))) (r : Result (Bor (List ℕ)) E) → o ≡ result_ok r → MatchOption o ((rest : List ℕ) → ¬ IsDeclaration inside rest) (λ left. (rest : List ℕ) → IsDeclaration inside rest → lines_of (chars left.now) ≡ rest)
      → IfOk r (λ left. (root : List ℕ) → HasRoot cs root → AreMisc (lines_of (chars left.now)) root)
  inside_only None (Ok x) same h = absurd (none-some x same)
  inside_only None (Err k) same h = tt
  inside_only (Some y) (Err k) same h = tt
  inside_only (Some y) (Ok x) same h = let is : y ≡ x = cc in declaration_only cs inside (lines_of (chars x.now)) e stops (subst (λ (l : Bor (List ℕ)). (rest : List ℕ) → IsDeclaration inside rest → lines_of (chars l.now) ≡ rest) is h)

  pub inside_refused : {E : Type 0} (o : Option (Bor (List ℕ))) (r : Result (Bor (List ℕ)) E) → o ≡ result_ok r → MatchOption o ((rest : List ℕ) → ¬ IsDeclaration inside rest) (λ left. (rest : List ℕ) → IsDeclaration inside rest → lines_of (chars left.now) ≡ rest)
      → IfErr r (λ k. (root : List ℕ) → ¬ HasRoot cs root)
  inside_refused o (Ok x) same h = tt
  inside_refused None (Err k) same h = declaration_refused cs inside e stops h
  inside_refused (Some y) (Err k) same h = absurd (none-some y (sym same))

-- the end of a declaration behind its version
pub version_end : (cs value mid behind_encoding behind spaced : List ℕ) (r : Option (Bor (List ℕ))) → IsOnlyField (codes "version") cs value mid → ((rest : List ℕ) → EndsDeclaration mid rest → ClosesDeclaration behind_encoding rest)
    → ((rest : List ℕ) → ClosesDeclaration behind_encoding rest → MaySpace (lines_of behind) (63 ∷ 62 ∷ rest)) → spaced ≡ after_run is_white behind
    → MatchOption r ((after : List ℕ) → spaced ≢ codes "?>" ++ after) (λ l. spaced ≡ codes "?>" ++ chars l.now)
    → MatchOption r ((rest : List ℕ) → ¬ IsDeclaration cs rest) (λ l. (rest : List ℕ) → IsDeclaration cs rest → lines_of (chars l.now) ≡ rest)
version_end cs value mid behind_encoding behind spaced None only one two run h = λ rest is. end_read behind spaced None run h rest (two rest (one rest (behind_version cs value mid only rest is)))
version_end cs value mid behind_encoding behind spaced (Some l) only one two run h = λ rest is. end_read behind spaced (Some l) run h rest (two rest (one rest (behind_version cs value mid only rest is)))
