-- Digests of texts and of sets.
use Rattle.std.specs.Prelude.{ℕ, List, [], Option, Some, None}
use Rattle.std.specs.List.{flat_map}
use Rattle.sha2.specs.Sha256.{sha256}
use Rattle.rn_modset.specs.Contributions.{Member}

-- the bytes of a text; a withdrawal has none
abbrev pub text_bytes : Option (List ℕ) → List ℕ
text_bytes (Some text) = text
text_bytes None = []

-- the digest of a member's text: SHA-256 (FIPS 180-4), 32 bytes
abbrev pub text_digest : Member → List ℕ
text_digest m = sha256 (text_bytes m.text)

-- the digest of a set: that of the digests of its members' texts, in their order
abbrev pub set_digest : List Member → List ℕ
set_digest s = sha256 (flat_map text_digest s)
