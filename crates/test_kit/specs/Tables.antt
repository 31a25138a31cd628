-- The tables that the test programs build, write after write. Assumes nothing.
use Rattle.std.specs.Prelude.{Bool, cond, List, ℕ, zero, suc, ◌+◌, ◌-◌, ◌*◌, ◌/◌, ◌%◌}
use Rattle.tables.specs.Format.{counts_at, messages_in, processes_in, receipts_at, sends_at}
use Rattle.test_kit.specs.Buffers.{with_number}

-- n changes of a buffer, from change 0 on.
unfoldable pub each : ℕ → (ℕ → List ℕ → List ℕ) → List ℕ → List ℕ
each zero change buffer = buffer
each (suc k) change buffer = change k (each k change buffer)

-- Two numbers, one behind the other: the sizes, or an entry of a message.
abbrev pub with_entry : List ℕ → ℕ → ℕ → ℕ → List ℕ
with_entry buffer at first second = with_number (with_number buffer at first) (at + 2) second

-- The count of one process.
abbrev pub with_count : List ℕ → ℕ → ℕ → List ℕ
with_count buffer p value = with_number buffer (counts_at + 2 * p) value

-- The sizes, and the counts, all alike.
unfoldable pub with_sizes : List ℕ → ℕ → ℕ → ℕ → List ℕ
with_sizes buffer n m value = each n (λ p b. with_count b p value) (with_entry buffer 0 n m)

-- Message k of the table in the buffer: from checkpoint y of j to checkpoint r of i.
unfoldable pub with_message : List ℕ → ℕ → ℕ → ℕ → ℕ → ℕ → List ℕ
with_message buffer k j y i r =
    let n = processes_in buffer in
    with_entry (with_entry buffer (sends_at n + 4 * k) j y) (receipts_at n (messages_in buffer) + 4 * k) i r

-- Where message k of a domino of m messages stands.
abbrev pub domino_place : ℕ → ℕ → Bool → ℕ
domino_place m k backward = cond backward (m - 1 - k) k

-- Its message k.
abbrev pub domino_message : ℕ → Bool → ℕ → List ℕ → List ℕ
domino_message m backward k buffer =
    with_message buffer (domino_place m k backward) (k % 2) (k / 2) (1 - k % 2) ((k + 1) / 2)

-- The domino.
unfoldable pub with_domino : List ℕ → ℕ → Bool → List ℕ
with_domino buffer m backward =
    each m (domino_message m backward) (with_count (with_sizes buffer 2 m (m / 2 + 1)) 1 (m / 2))
