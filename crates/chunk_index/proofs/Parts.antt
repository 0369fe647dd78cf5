-- The listing of one part after another.
use Rattle.std.proofs.Common.{◌≡◌, ℕ, ◌+◌, ◌<◌, ◌≤◌, List, ◌++◌, length, drop, get_or, ap, arith}
use Rattle.std.proofs.lemmas.List.{length-append, drop_more}
use Rattle.chunk_index.specs.declared.form.CommittedKey.{CommittedKey}
use Rattle.chunk_index.specs.declared.entry.KeyEntry.{KeyEntry}
use Rattle.chunk_index.specs.Listing.{key_in, keys_of}

-- there is room for the next part
pub list_room : (now old part rest all : List CommittedKey) → now ++ (part ++ rest) ≡ old ++ all → (before after : ℕ) → length old + length all ≤ before → before ≤ after → length now + length part ≤ after
list_room now old part rest all same before after fits grows =
    let one = length-append now (part ++ rest) in
    let two = length-append part rest in
    let three = length-append old all in
    let four : length (now ++ (part ++ rest)) ≡ length (old ++ all) = ap length same in
    omega (arith, one, two, three, four, fits, grows)

-- the rest of an object's entries, and the next of them
pub rest_more : (b o : ℕ) (es : List KeyEntry) (i : ℕ) (d : KeyEntry) → i < length es → keys_of b o (drop i es) ≡ key_in b o (get_or es i d) ++ keys_of b o (drop (i + 1) es)
rest_more b o es i d lt = ap (keys_of b o) (drop_more es i d lt)
