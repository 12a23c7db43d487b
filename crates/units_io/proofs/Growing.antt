-- A known list of bytes that grows piece by piece, and one that is taken piece by piece.
use Rattle.std.proofs.Common.{◌≡◌, ◌+◌, ◌++◌, ℕ, List, length, take, drop, refl, ap, sym, ◌∙◌, append_assoc, Some, None}
use Rattle.std.proofs.Math.Seq.{take-add}
use Rattle.std.proofs.lemmas.List.{take-append-drop, drop-drop, take_at}
use Rattle.std.specs.declared.option.Option.{Option}
use Rattle.units_io.specs.Bytes.{sink_bytes_append}

-- appending a prefix and then a prefix of the rest appends a longer prefix
pub sink_bytes-step : (held : Option (List ℕ)) (bytes : List ℕ) (m n : ℕ)
    → sink_bytes_append (sink_bytes_append held (take m bytes)) (take n (drop m bytes)) ≡ sink_bytes_append held
    (take (m + n) bytes)
sink_bytes-step None bytes m n = refl
sink_bytes-step (Some held) bytes m n = ap Some (append_assoc held _ _ ∙ ap (λ x. held ++ x) (sym (take-add m n bytes)))

-- the next n bytes are copied to the front of a buffer, and the bytes after them are left
pub drop-source_bytes_taken : (bytes lent copied rest : List ℕ) (at n m : ℕ) → m ≡ n → length copied ≡ n → lent ≡ bytes
    → copied ≡ take m (drop at lent) → drop at bytes ≡ take n (copied ++ rest) ++ drop (at + n) bytes
drop-source_bytes_taken bytes lent copied rest at n m same long whole is =
    rw (take_at copied rest n long, is, whole, same, ← drop-drop n at bytes) (sym (take-append-drop n (drop at bytes)))
