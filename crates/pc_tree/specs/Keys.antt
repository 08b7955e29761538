-- Hash keys, derived from a text for its own names.
use Rattle.std.specs.Prelude.{ℕ, List, fold}
use Rattle.std.specs.Hash.{u64}
use Rattle.std.specs.Hash.DefaultHasher as sip
use Rattle.std.specs.Hash.FoldHasher as folding
use Rattle.pc_tree.specs.declared.keys.KeyedHasher.{KeyedHasher}
use Rattle.pc_tree.specs.declared.keys.Keys.{Keys}

-- the hasher after more bytes
abbrev pub written : KeyedHasher → List ℕ → KeyedHasher
written h bytes = record h { state = folding.write h.state bytes }

-- the hash, after the key is written a second time
abbrev pub finished : KeyedHasher → ℕ
finished h = folding.finish (fold folding.write h.state (u64 h.key))

-- the initial state of each hash with these keys
abbrev pub begun : Keys → KeyedHasher
begun k = k.first

-- a hash of all bytes of the text
abbrev pub hash_of_text : List ℕ → ℕ
hash_of_text text = sip.finish (sip.write sip.initial text)

-- the keys of a text: each hash begins with the text's own hash
abbrev pub keys_of : List ℕ → Keys
keys_of text = let key = hash_of_text text in
    record { first = record { state = fold folding.write folding.initial (u64 key); key = key } }
