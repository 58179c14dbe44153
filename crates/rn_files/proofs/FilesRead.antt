-- What was read of files: what is weaker is so of the same ones, and all of it is a front of it.
use Rattle.std.proofs.Common.{◌≡◌, ℕ, inl, inr, true, false, length, List, [], Option, Some, None, arith, subst, sym}
use Rattle.std.specs.Borrow.{Bor}
use Rattle.std.specs.Option.{option_copied}
use Rattle.std.specs.Prelude.{All, IfNone, MatchOption, OnSome, is_some, string_bytes}
use Rattle.std.proofs.lemmas.Bool.{false≢true}
use Rattle.std.proofs.lemmas.List.{take_all}
use Rattle.std.proofs.lemmas.List.Elements.{All-weaker}
use Rattle.rn_files.specs.Maps.{Groups, IsFoundFolder}
use Rattle.rn_files.specs.ReadableFiles.{Gives, IsFrontOfRead, IsKept, IsReadAt, IsReadFor, IsReadSource, IsReadWithin, IsTextRead, Leads, LiesInMap, MayBeRead, Reads, lies_in}
use Rattle.rn_files.specs.inside.Following.{IsDecodedIn, IsFollowed, IsFront, IsKeptIn, IsRootOf}
use Rattle.rn_files.specs.declared.opening.root_folder.RootFolder.{RootFolder}
use Rattle.rn_files.specs.declared.sources.Asked.{Asked}
use Rattle.rn_files.specs.declared.sources.SourceFile.{SourceFile}
use Rattle.rn_files.specs.declared.sources.XmlSource.{XmlSource}
use Rattle.rn_xml.specs.Encodings.{may_be_xml, IsDecoded}
use Rattle.rn_files.specs.declared.walking.walk.Followed.{Followed}

none_matched : {A : Type 0} (o : Option A) (P Q : Type 0) → is_some o ≡ false → P → MatchOption o P (λ x. Q)
none_matched None P Q e p = p
none_matched (Some x) P Q e p = absurd (false≢true (sym e))

either_matched : {A : Type 0} (o : Option A) (P Q : Type 0) → (Q → P) → MatchOption o P (λ x. Q) → P
either_matched None P Q f h = h
either_matched (Some x) P Q f h = f h

weaker_matched : {A : Type 0} (o : Option A) (P Q P' Q' : Type 0) → (P → P') → (Q → Q') → MatchOption o P (λ x. Q) → MatchOption o P' (λ x. Q')
weaker_matched None P Q P' Q' f g h = f h
weaker_matched (Some x) P Q P' Q' f g h = g h

always : {A : Type 0} (o : Option A) (P : Type 0) → P → OnSome o P
always None P p = tt
always (Some x) P p = p

all_is_front : (reads : Reads) (uri path text : List ℕ) → reads uri path text → IsFrontOfRead reads text
all_is_front reads uri path text h = inr (uri, path, text, length text, h, sym (take_all (length text) text (omega arith)))

-- the text that was read is kept
text_kept : (reads : Reads) (uri path text : List ℕ) (w : Option XmlSource) → IsTextRead reads uri path text w → IsKept reads text w
text_kept reads uri path text None h = all_is_front reads uri path text h
text_kept reads uri path text (Some w) (bytes, h, xml, is) = (uri, path, bytes, h, xml, always w.origins (IsDecoded bytes (string_bytes w.text)) is)

front_weaker : (reads others : Reads) → ((u p b : List ℕ) → reads u p b → others u p b) → (text : List ℕ) → IsFrontOfRead reads text → IsFrontOfRead others text
front_weaker reads others weaker text (inl none) = inl none
front_weaker reads others weaker text (inr (uri, path, bytes, n, read, cut)) = inr (uri, path, bytes, n, weaker uri path bytes read, cut)

kept_weaker : (reads others : Reads) → ((u p b : List ℕ) → reads u p b → others u p b) → (text : List ℕ) (w : Option XmlSource) → IsKept reads text w → IsKept others text w
kept_weaker reads others weaker text None h = front_weaker reads others weaker text h
kept_weaker reads others weaker text (Some w) (uri, path, bytes, read, xml, is) = (uri, path, bytes, weaker uri path bytes read, xml, is)

text_weaker : (reads others : Reads) → ((u p b : List ℕ) → reads u p b → others u p b) → (uri path text : List ℕ) (w : Option XmlSource)
    → IsTextRead reads uri path text w → IsTextRead others uri path text w
text_weaker reads others weaker uri path text None h = weaker uri path text h
text_weaker reads others weaker uri path text (Some w) (bytes, h, xml, is) = (bytes, weaker uri path bytes h, xml, is)

-- the text of a file without fault
pub text_read : (reads : Reads) (uri path bytes text : List ℕ) (w : Option XmlSource) → reads uri path bytes → IfNone w (text ≡ bytes)
    → OnSome w (may_be_xml bytes ≡ true) → IsDecodedIn bytes w → IsTextRead reads uri path text w
text_read reads uri path bytes text None read same xml is = let P : List ℕ → Type 0 = λ t. reads uri path t in subst P (sym same) read
text_read reads uri path bytes text (Some w) read same xml is = (bytes, read, xml, is)

-- what is kept of a file at fault
kept_front : (reads : Reads) (uri path bytes text : List ℕ) (w : Option XmlSource) → reads uri path bytes → IfNone w (IsFront bytes text)
    → OnSome w (may_be_xml bytes ≡ true) → IsKeptIn bytes w → IsKept reads text w
kept_front reads uri path bytes text None read (n, cut) xml is = inr (uri, path, bytes, n, read, cut)
kept_front reads uri path bytes text (Some w) read front xml is = (uri, path, bytes, read, xml, is)

-- a file at fault
pub faulty_followed : (reads : Reads) (f : Followed) → is_some f.outline ≡ false → IsKept reads (string_bytes f.text) f.written → IsFollowed reads f
faulty_followed reads f none kept =
    none_matched f.outline (IsKept reads (string_bytes f.text) f.written)
    (IsTextRead reads (string_bytes f.found.uri) (string_bytes f.found.path) (string_bytes f.text) f.written) none kept

nothing_kept : (reads : Reads) (text : List ℕ) (w : Option XmlSource) → w ≡ None → text ≡ [] → IsKept reads text w
nothing_kept reads text w none empty = let P : Option XmlSource → Type 0 = λ v. IsKept reads text v in subst P (sym none) (inl empty)

-- a file at fault, of which nothing was read
pub unread_followed : (reads : Reads) (f : Followed) → is_some f.outline ≡ false → string_bytes f.text ≡ [] → f.written ≡ None → IsFollowed reads f
unread_followed reads f none empty unwritten = faulty_followed reads f none (nothing_kept reads (string_bytes f.text) f.written unwritten empty)

-- a file at fault, of which a front is kept
pub front_followed : (reads : Reads) (f : Followed) (uri path bytes text : List ℕ) (w : Option XmlSource) → is_some f.outline ≡ false → string_bytes f.text ≡ text
    → f.written ≡ w → IfNone w (IsFront bytes text) → OnSome w (may_be_xml bytes ≡ true) → IsKeptIn bytes w → reads uri path bytes → IsFollowed reads f
front_followed reads f uri path bytes text w none same written front xml is read =
    let P : List ℕ → Type 0 = λ t. IsKept reads t f.written in
    let Q : Option XmlSource → Type 0 = λ v. IsKept reads text v in
    faulty_followed reads f none (subst P (sym same) (subst Q (sym written) (kept_front reads uri path bytes text w read front xml is)))

-- what is kept of each file
pub followed_kept : (reads : Reads) (f : Followed) → IsFollowed reads f → IsKept reads (string_bytes f.text) f.written
followed_kept reads f h =
    let uri = string_bytes f.found.uri in
    let path = string_bytes f.found.path in
    let text = string_bytes f.text in
    either_matched f.outline (IsKept reads text f.written) (IsTextRead reads uri path text f.written) (text_kept reads uri path text f.written) h

pub source_kept : (reads : Reads) (f : SourceFile) → IsReadSource reads f → IsKept reads (string_bytes f.text) f.written
source_kept reads f h = text_kept reads (string_bytes f.uri) (string_bytes f.path) (string_bytes f.text) f.written h

pub followed_weaker : (reads others : Reads) → ((u p b : List ℕ) → reads u p b → others u p b) → (f : Followed) → IsFollowed reads f → IsFollowed others f
followed_weaker reads others weaker f h =
    let uri = string_bytes f.found.uri in
    let path = string_bytes f.found.path in
    let text = string_bytes f.text in
    weaker_matched f.outline (IsKept reads text f.written) (IsTextRead reads uri path text f.written) (IsKept others text f.written)
    (IsTextRead others uri path text f.written) (kept_weaker reads others weaker text f.written) (text_weaker reads others weaker uri path text f.written) h

-- what is read below a root folder is read below the folder that is asked for
pub read_within : (leads : Leads) (gives : Gives) (named : List ℕ) (root : RootFolder) (maps : Groups) → IsRootOf leads named root → (u p b : List ℕ)
    → IsReadAt leads gives (Some (string_bytes root.real)) maps u p b → IsReadWithin leads gives (Some named) maps u p b
read_within leads gives named root maps (folder, led, same) u p b h =
    let P : List ℕ → Type 0 = λ r. IsReadAt leads gives (Some r) maps u p b in (folder, led, subst P same h)

all_weaker : (reads others : Reads) (fs : List Followed) → ((u p b : List ℕ) → reads u p b → others u p b) → All (IsFollowed reads) fs → All (IsFollowed others) fs
all_weaker reads others fs weaker h = All-weaker (IsFollowed reads) (IsFollowed others) (followed_weaker reads others weaker) fs h

-- no root folder is asked for
pub within_none : (leads : Leads) (gives : Gives) (asked : Asked) (fs : List Followed) → asked.root ≡ None
    → All (IsFollowed (IsReadAt leads gives None asked.maps.now)) fs → All (IsFollowed (IsReadFor leads gives asked)) fs
within_none leads gives asked fs none h =
    let P : Option (Bor (List ℕ)) → Type 0 = λ r. All (IsFollowed (IsReadWithin leads gives (option_copied r) asked.maps.now)) fs in
    subst P (sym none) (all_weaker (IsReadAt leads gives None asked.maps.now) (IsReadWithin leads gives None asked.maps.now) fs (λ u p b read. read) h)

-- a root folder is asked for, and was found
pub within_some : (leads : Leads) (gives : Gives) (asked : Asked) (fs : List Followed) (named : Bor (List ℕ)) (root : RootFolder) → asked.root ≡ Some named
    → IsRootOf leads named.now root → All (IsFollowed (IsReadAt leads gives (Some (string_bytes root.real)) asked.maps.now)) fs
    → All (IsFollowed (IsReadFor leads gives asked)) fs
within_some leads gives asked fs named root some found h =
    let maps = asked.maps.now in
    let P : Option (Bor (List ℕ)) → Type 0 = λ r. All (IsFollowed (IsReadWithin leads gives (option_copied r) maps)) fs in
    subst P (sym some)
    (all_weaker (IsReadAt leads gives (Some (string_bytes root.real)) maps) (IsReadWithin leads gives (Some named.now) maps) fs
    (read_within leads gives named.now root maps found) h)

-- a file that lies in what a map names
pub in_map : (leads : Leads) (maps : Groups) (uri real named folder : List ℕ) → IsFoundFolder maps uri named → leads named folder
    → lies_in folder real ≡ true → LiesInMap leads maps uri real
in_map leads maps uri real named folder found led lies = (named, folder, found, led, lies)

-- it may be read
pub may_in_map : (leads : Leads) (root : Option (List ℕ)) (maps : Groups) (uri path real : List ℕ) → LiesInMap leads maps uri real
    → MayBeRead leads root maps uri path real
may_in_map leads None maps uri path real lies = tt
may_in_map leads (Some root) maps uri path real lies = inr (inr lies)
