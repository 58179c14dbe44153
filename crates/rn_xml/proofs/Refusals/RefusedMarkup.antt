-- Comments, processing instructions and CDATA sections that are none.
use Rattle.std.proofs.Common.{◌≡◌, ◌≢◌, ◌<◌, ℕ, Bool, true, false, List, [], ◌∷◌, ◌++◌, length, refl, sym, ap, ◌∙◌, subst, arith, inl, inr}
use Rattle.std.specs.Prelude.{◌==◌, ◌||◌, ◌⊎◌, not, codes}
use Rattle.std.specs.List.{list_all}
use Rattle.std.proofs.lemmas.Bool.{and_parts, both_ways, true≢false, false≢true}
use Rattle.std.proofs.lemmas.Bool.Decides.{nat_tests}
use Rattle.std.proofs.lemmas.List.{append_cancel_left}
use Rattle.rn_text.specs.Characters.{is_xml_char, is_name_char, is_ncname}
use Rattle.rn_text.specs.Segments.{begins_with, after_run, run_of}
use Rattle.rn_text.specs.Texts.{is_white}
use Rattle.rn_text.proofs.Words.CharacterRuns.{stop_fails}
use Rattle.rn_text.proofs.Words.EqualLists.{cons_first, cons_rest}
use Rattle.rn_xml.specs.XmlCharacters.{lines_of, IsComment, IsTarget, IsInstruction, IsSection, AreMisc}
use Rattle.rn_xml.specs.XmlCharacters as x
use Rattle.rn_xml.specs.inside.Fronts.{opens_tag, opens_markup, IsBroken, IsRootOrEnd, LacksMisc}
use Rattle.rn_xml.specs.inside.Pieces.{IsUpTo, IsPiece, here, further, is_inner}
use Rattle.rn_xml.proofs.Decoding.DeclarationFields.{white_there}
use Rattle.rn_xml.proofs.Refusals.OneReading.Contents.{misc_leads_on}
use Rattle.rn_xml.proofs.Refusals.OneReading.FirstCharacters.{kind_of, tag_kind, comment_kind, instruction_kind, section_kind}
use Rattle.rn_xml.proofs.Refusals.OneReading.Markup.{comment_parts, section_parts, instruction_parts, InstructionParts}
use Rattle.rn_xml.proofs.Refusals.OneReading.Names.{plain_once}
use Rattle.rn_xml.proofs.Refusals.OneReading.UpToOneEnd.{up_to_once}
use Rattle.rn_xml.proofs.QNames.{ncname_inner}
use Rattle.rn_xml.proofs.Refusals.RefusedFronts.{lines_begin}
use Rattle.rn_xml.proofs.Refusals.RefusedNames.{ncname_there, stops_at, no_feed}
use Rattle.rn_xml.proofs.Sources.{lines_step, normal_cases, inner_itself, inner_front, front_absent}

-- ---- up to an end

-- where an end comes behind the characters, it does behind the rest
abbrev pub LeavesEnd : List ℕ → List ℕ → List ℕ → Type 0
LeavesEnd end cs rest = (inside after : List ℕ) → IsUpTo end cs inside after → (more : List ℕ) × IsUpTo end rest more after

pub end_itself : (end cs : List ℕ) → LeavesEnd end cs cs
end_itself end cs inside after h = (inside, h)

up_to_tail : (end cs : List ℕ) (e : ℕ) (ds : List ℕ) → cs ≡ e ∷ ds → ((behind : List ℕ) → cs ≢ end ++ behind) → LeavesEnd end cs ds
up_to_tail end cs e ds is absent inside after here = absurd (absent after refl)
up_to_tail end cs e ds is absent inside after (further {inside = i} legal apart h) = (i, subst (λ l. IsUpTo end l i after) (cons_rest is) h)

pub end_more : (end cs rest : List ℕ) (c : ℕ) (after : List ℕ) → list_all is_inner end ≡ true → LeavesEnd end cs (lines_of rest) → rest ≡ c ∷ after → ((behind : List ℕ) → rest ≢ end ++ behind) → LeavesEnd end cs (lines_of after)
end_more end cs rest c after inner far first absent inside behind h = let left = far inside behind h in step left.0 behind left.1
  where
    step : LeavesEnd end (lines_of rest) (lines_of after)
    step = subst (λ l. LeavesEnd end l (lines_of after)) (sym (ap lines_of first ∙ lines_step c after))
        (normal_cases (λ n. ((behind : List ℕ) → n ++ lines_of after ≢ end ++ behind) → LeavesEnd end (n ++ lines_of after) (lines_of after)) c after
        (λ r f none. end_itself end (lines_of after)) (λ none. up_to_tail end (10 ∷ lines_of after) 10 (lines_of after) refl none) (λ none. up_to_tail end (c ∷ lines_of after) c (lines_of after) refl none)
        (λ b e. front_absent end rest inner absent b (ap lines_of first ∙ lines_step c after ∙ e)))

pub illegal_inner : (c : ℕ) → is_xml_char c ≡ false → is_inner c ≡ true
unfolding is_xml_char
illegal_inner c n = grind (arith, nat_tests)

pub no_end_illegal : (end cs : List ℕ) (c : ℕ) (after : List ℕ) → list_all is_inner end ≡ true → cs ≡ c ∷ after → ((behind : List ℕ) → cs ≢ end ++ behind) → is_xml_char c ≡ false → (inside rest : List ℕ) → ¬ IsUpTo end (lines_of cs) inside rest
no_end_illegal end cs c after inner first absent illegal inside rest h = none (lines_of cs) inside rest h (ap lines_of first ∙ inner_itself c after (illegal_inner c illegal)) (front_absent end cs inner absent)
  where
    none : (ds inside rest : List ℕ) → IsUpTo end ds inside rest → ds ≡ c ∷ lines_of after → ((behind : List ℕ) → ds ≢ end ++ behind) → ⊥
    none ds inside rest here e apart = apart rest refl
    none ds inside rest (further legal away h) e apart = true≢false (sym legal ∙ ap is_xml_char (cons_first e) ∙ illegal)

pub no_end_left : (end cs : List ℕ) → 0 < length end → cs ≡ [] → (inside rest : List ℕ) → ¬ IsUpTo end cs inside rest
no_end_left [] cs some none inside rest h = absurd (omega arith)
no_end_left (e ∷ end) cs some none inside rest here = let no : e ∷ (end ++ rest) ≡ [] = none in cc
no_end_left (e ∷ end) cs some none inside rest (further {c = c} {cs = ds} legal apart h) = let no : c ∷ ds ≡ [] = none in cc

-- ---- markup that is broken

comment_lines : (cs inside : List ℕ) → cs ≡ codes "<!--" ++ inside → lines_of cs ≡ codes "<!--" ++ lines_of inside
comment_lines cs inside e = ap lines_of e ∙ inner_front (codes "<!--") inside refl

instruction_lines : (cs inside : List ℕ) → cs ≡ codes "<?" ++ inside → lines_of cs ≡ codes "<?" ++ lines_of inside
instruction_lines cs inside e = ap lines_of e ∙ inner_front (codes "<?") inside refl

section_lines : (cs inside : List ℕ) → cs ≡ codes "<![CDATA[" ++ inside → lines_of cs ≡ codes "<![CDATA[" ++ lines_of inside
section_lines cs inside e = ap lines_of e ∙ inner_front (codes "<![CDATA[") inside refl

pub comment_broken : (cs inside : List ℕ) → cs ≡ codes "<!--" ++ inside → ((i rest : List ℕ) → ¬ IsUpTo (codes "--") (lines_of inside) i (62 ∷ rest)) → IsBroken (lines_of cs)
comment_broken cs inside e none = record { opens = ap opens_markup whole; no_piece = piece; no_section = λ i rest h. let k = section_kind (lines_of cs) i rest h in let one = three in absurd (omega arith) }
  where
    whole : lines_of cs ≡ codes "<!--" ++ lines_of inside
    whole = comment_lines cs inside e

    three : kind_of (lines_of cs) ≡ 3
    three = ap kind_of whole

    piece : (rest : List ℕ) → ¬ IsPiece (lines_of cs) rest
    piece rest (inl h) =
        let p = comment_parts (lines_of cs) rest h in
        let body : p.body ≡ lines_of inside = append_cancel_left (codes "<!--") p.body (lines_of inside) (sym p.is ∙ whole) in
        none p.inside rest (subst (λ l. IsUpTo (codes "--") l p.inside (62 ∷ rest)) body p.up_to)
    piece rest (inr h) = let k = instruction_kind (lines_of cs) rest h in let one = three in absurd (omega arith)

-- `--` isn't followed by `>`
pub dashes_only : (inside i behind : List ℕ) → IsUpTo (codes "--") (lines_of inside) i (lines_of behind) → begins_with (λ d. d == 62) behind ≡ false → (j rest : List ℕ) → ¬ IsUpTo (codes "--") (lines_of inside) j (62 ∷ rest)
dashes_only inside i behind h none j rest k =
    let same = (up_to_once (codes "--") (lines_of inside) (lines_of inside) i j (lines_of behind) (62 ∷ rest) h k refl).1 in
    true≢false (ap (begins_with (λ d. d == 62)) (sym same) ∙ lines_begin (λ d. d == 62) behind refl none)

pub section_broken : (cs inside : List ℕ) → cs ≡ codes "<![CDATA[" ++ inside → ((i rest : List ℕ) → ¬ IsUpTo (codes "]]>") (lines_of inside) i rest) → IsBroken (lines_of cs)
section_broken cs inside e none = record { opens = ap opens_markup whole; no_piece = piece; no_section = section }
  where
    whole : lines_of cs ≡ codes "<![CDATA[" ++ lines_of inside
    whole = section_lines cs inside e

    two : kind_of (lines_of cs) ≡ 2
    two = ap kind_of whole

    piece : (rest : List ℕ) → ¬ IsPiece (lines_of cs) rest
    piece rest (inl h) = let k = comment_kind (lines_of cs) rest h in let one = two in absurd (omega arith)
    piece rest (inr h) = let k = instruction_kind (lines_of cs) rest h in let one = two in absurd (omega arith)

    section : (i rest : List ℕ) → ¬ IsSection (lines_of cs) i rest
    section i rest h =
        let p = section_parts (lines_of cs) i rest h in
        let body : p.body ≡ lines_of inside = append_cancel_left (codes "<![CDATA[") p.body (lines_of inside) (sym p.is ∙ whole) in
        none i rest (subst (λ l. IsUpTo (codes "]]>") l i rest) body p.up_to)

pub instruction_broken : (cs inside : List ℕ) → cs ≡ codes "<?" ++ inside → ((rest : List ℕ) → ¬ InstructionParts (lines_of cs) rest) → IsBroken (lines_of cs)
instruction_broken cs inside e none = record { opens = ap opens_markup whole; no_piece = piece; no_section = λ i rest h. let k = section_kind (lines_of cs) i rest h in let one = four in absurd (omega arith) }
  where
    whole : lines_of cs ≡ codes "<?" ++ lines_of inside
    whole = instruction_lines cs inside e

    four : kind_of (lines_of cs) ≡ 4
    four = ap kind_of whole

    piece : (rest : List ℕ) → ¬ IsPiece (lines_of cs) rest
    piece rest (inl h) = let k = comment_kind (lines_of cs) rest h in let one = four in absurd (omega arith)
    piece rest (inr h) = none rest (instruction_parts (lines_of cs) rest h)

-- why an instruction isn't whole
module _ (cs inside : List ℕ) (front : cs ≡ codes "<?" ++ inside) where
  behind_front : (rest : List ℕ) → (p : InstructionParts (lines_of cs) rest) → lines_of inside ≡ p.name ++ p.tail
  behind_front rest p = append_cancel_left (codes "<?") (lines_of inside) (p.name ++ p.tail) (sym (instruction_lines cs inside front) ∙ p.is)

  pub no_target : is_ncname (run_of is_name_char inside) ≡ false → (rest : List ℕ) → ¬ InstructionParts (lines_of cs) rest
  no_target none rest p = both_ways (is_ncname (run_of is_name_char inside)) none (ncname_there inside p.name p.tail p.is_target.is_name (behind_front rest p))

  module _ (name behind : List ℕ) (is : is_ncname name ≡ true) (split : inside ≡ name ++ behind) (run : behind ≡ after_run is_name_char inside) where
    pub name_tail : (rest : List ℕ) → (p : InstructionParts (lines_of cs) rest) → (p.name ≡ name) × (p.tail ≡ lines_of behind)
    name_tail rest p = plain_once p.name p.tail name (lines_of behind) p.is_target.is_name is p.stops (lines_begin is_name_char behind no_feed (stops_at inside behind run))
        (sym (behind_front rest p) ∙ ap lines_of split ∙ inner_front name behind (ncname_inner name is))

    pub reserved_target : ¬ IsTarget name → (rest : List ℕ) → ¬ InstructionParts (lines_of cs) rest
    reserved_target none rest p = none (subst IsTarget (name_tail rest p).0 p.is_target)

    module _ (absent : (after : List ℕ) → behind ≢ codes "?>" ++ after) where
      pub no_space : begins_with is_white behind ≡ false → (rest : List ℕ) → ¬ InstructionParts (lines_of cs) rest
      no_space none rest p = at p.goes_on
        where
          at : (p.tail ≡ codes "?>" ++ rest) ⊎ ((i : List ℕ) × (begins_with is_white p.tail ≡ true) × IsUpTo (codes "?>") p.tail i rest) → ⊥
          at (inl e) = front_absent (codes "?>") behind refl absent rest (sym (name_tail rest p).1 ∙ e)
          at (inr (i, white, h)) = both_ways (begins_with is_white behind) none (white_there behind (ap (begins_with is_white) (sym (name_tail rest p).1) ∙ white))

      pub no_mark_end : ((i rest : List ℕ) → ¬ IsUpTo (codes "?>") (lines_of behind) i rest) → (rest : List ℕ) → ¬ InstructionParts (lines_of cs) rest
      no_mark_end none rest p = at p.goes_on
        where
          at : (p.tail ≡ codes "?>" ++ rest) ⊎ ((i : List ℕ) × (begins_with is_white p.tail ≡ true) × IsUpTo (codes "?>") p.tail i rest) → ⊥
          at (inl e) = front_absent (codes "?>") behind refl absent rest (sym (name_tail rest p).1 ∙ e)
          at (inr (i, white, h)) = none i rest (subst (λ l. IsUpTo (codes "?>") l i rest) (name_tail rest p).1 h)

-- ---- markup that doesn't begin

pub no_comment : (cs : List ℕ) → ((behind : List ℕ) → cs ≢ codes "<!--" ++ behind) → (rest : List ℕ) → ¬ IsComment (lines_of cs) rest
no_comment cs absent rest h = let p = comment_parts (lines_of cs) rest h in front_absent (codes "<!--") cs refl absent p.body p.is

pub no_instruction : (cs : List ℕ) → ((behind : List ℕ) → cs ≢ codes "<?" ++ behind) → (rest : List ℕ) → ¬ IsInstruction (lines_of cs) rest
no_instruction cs absent rest h = let p = instruction_parts (lines_of cs) rest h in front_absent (codes "<?") cs refl absent (p.name ++ p.tail) p.is

pub no_section : (cs : List ℕ) → ((behind : List ℕ) → cs ≢ codes "<![CDATA[" ++ behind) → (i rest : List ℕ) → ¬ IsSection (lines_of cs) i rest
no_section cs absent i rest h = let p = section_parts (lines_of cs) i rest h in front_absent (codes "<![CDATA[") cs refl absent p.body p.is

-- ---- what stands around the root

pub stops_run : (p : ℕ → Bool) (cs rest : List ℕ) → rest ≡ after_run p cs → begins_with p rest ≡ false
stops_run p cs [] e = refl
stops_run p cs (d ∷ ds) e = stop_fails p cs d ds (sym e)

pub lacks_misc : (cs : List ℕ) → begins_with is_white cs ≡ false → ((rest : List ℕ) → ¬ IsPiece (lines_of cs) rest) → LacksMisc (lines_of cs)
lacks_misc cs black none rest h = last (lines_of cs) rest h refl
  where
    last : (ds rest : List ℕ) → AreMisc ds rest → ds ≡ lines_of cs → rest ≡ ds
    last ds rest x.AreMisc.none e = refl
    last ds rest (x.AreMisc.white w h) e = absurd (both_ways (begins_with is_white cs) black (white_there cs (ap (begins_with is_white) (sym e) ∙ w)))
    last ds rest (x.AreMisc.comment {mid = m} s h) e = absurd (none m (inl (subst (λ l. IsComment l m) e s)))
    last ds rest (x.AreMisc.instruction {mid = m} s h) e = absurd (none m (inr (subst (λ l. IsInstruction l m) e s)))

pub markup_no_tag : (cs : List ℕ) → opens_markup cs ≡ true → opens_tag cs ≡ true → ⊥
markup_no_tag [] m t = false≢true m
markup_no_tag (c ∷ []) m t = false≢true (and_parts (c == 60) false m).1
markup_no_tag (c ∷ d ∷ ds) m t = false≢true (sym (ap not (and_parts (c == 60) (d == 33 || d == 63) m).1) ∙ (and_parts (c == 60) (not (d == 33 || d == 63)) t).1)

pub root_kind : (cs : List ℕ) → IsRootOrEnd cs → kind_of cs ≡ 5
root_kind cs (inl e) = ap kind_of e
root_kind cs (inr t) = tag_kind cs t

less_black : (c : ℕ) → (c == 60) ≡ true → is_white c ≡ true → ⊥
less_black c e w = grind (arith, nat_tests)

broken_misc : (cs rest : List ℕ) → IsBroken cs → AreMisc cs rest → IsRootOrEnd rest → ⊥
broken_misc cs rest b x.AreMisc.none (inl e) = false≢true (ap opens_markup (sym e) ∙ b.opens)
broken_misc cs rest b x.AreMisc.none (inr t) = markup_no_tag cs b.opens t
broken_misc cs rest b (x.AreMisc.white {c = c} {cs = ds} w h) root = less_black c (and_parts (c == 60) (begins_with (λ d. d == 33 || d == 63) ds) b.opens).0 w
broken_misc cs rest b (x.AreMisc.comment {mid = m} s h) root = b.no_piece m (inl s)
broken_misc cs rest b (x.AreMisc.instruction {mid = m} s h) root = b.no_piece m (inr s)

pub misc_refused : (cs mid : List ℕ) → AreMisc cs mid → IsBroken mid → (rest : List ℕ) → AreMisc cs rest → ¬ IsRootOrEnd rest
misc_refused cs mid h b rest k root = broken_misc mid rest b (misc_leads_on cs mid rest h k (root_kind rest root)) root
