-- Reading and writing a table undo each other.
--     message_path, table-path             messages and tables are equal by their parts
--     decode-encode      a table whose numbers fit 16 bits (Fits16), written and read again
--     encode-decode      bytes (AreBytes) whose length is right, read and written again
--     front_read, all_read                 numbers of bytes, one after another, give the bytes again
--     entries_append, entries_tabulate, even_number, odd_number     the numbers of one array
--     sends_numbers, receipts_numbers    the numbers of the parts are those of the decoded table
-- Assumes nothing.
use mathlib.Core.List.{List, [], ◌∷◌, ◌++◌, append-nil}
use mathlib.Core.Path.{◌≡◌, refl, sym, ap, ap₂, ◌∙◌, subst, subst⁻¹}
use Prim.Native.Nat.{ℕ, zero, suc, ◌+◌, ◌*◌, ◌/◌, ◌%◌, ◌≤◌, ◌<◌}
use native.Mathlib.Nat.{add_comm, le_of_suc-le-suc, mul-suc, mul-zero, not-suc-le-zero}
use native.Mathlib.Omega.{arith}
use lib.ListN.{length, get_or, take, drop, length-append, length-drop, get_or-append}
use lib.Seq.{ext_get_or, get_or-append-add, get_or-drop, take-add, take-length}
use Rattle.tables.proofs.FormatLaws.{ReadSizes, count_place, count_some, decode-messages, decode-processes, length_entries}
use Rattle.tables.proofs.FormatLaws.{receipt_place, received-there, receiver_there, send_place, sender_there, sent_there}
use Rattle.tables.proofs.ListLaws.{tabulate-append, tabulate_ext}
use Rattle.tables.proofs.NumberLaws.{later-number, number_at-drop, u16_at-u16s}
use Rattle.tables.specs.Format.{checkpoint_at, count_at, counts_at, counts_part, decode, encode, entries_of, message_at, messages_in}
use Rattle.tables.specs.Format.{process_at, processes_in, receipts_at, receipts_of, receipts_part, sends_at, sends_of, sends_part, table_length}
use Rattle.tables.specs.Lists.{tabulate}
use Rattle.tables.specs.Numbers.{bytes_of, bytes_of_all, number_at, u16_at, u16s}
use Rattle.tables.specs.Table.{Message, Table, count_of, message_count, message_of, no_message, process_count, table_of}

pub message_path : (m m' : Message) → m.sender ≡ m'.sender → m.sent ≡ m'.sent → m.receiver ≡ m'.receiver
    → m.received ≡ m'.received → m ≡ m'
message_path m m' a b c d = λ i. record { sender = a i; sent = b i; receiver = c i; received = d i }

pub table-path : (t t' : Table) → t.counts ≡ t'.counts → t.messages ≡ t'.messages → t ≡ t'
table-path t t' a b = λ i. table_of (a i) (b i)

-- the two numbers of entry k of an array
module _ (f g : Message → ℕ) where
  entries_process : (ms : List Message) (k : ℕ) → k < length ms → get_or (entries_of f g ms) (2 * k) 0 ≡ f (get_or ms k no_message)
  unfolding entries_of
  entries_process [] k l = absurd (not-suc-le-zero l)
  entries_process (m ∷ rest) zero l = refl
  entries_process (m ∷ rest) (suc k) l =
      let place : 2 * suc k ≡ suc (suc (2 * k)) = omega arith in
      rw place (entries_process rest k (le_of_suc-le-suc l))

  entries_checkpoint : (ms : List Message) (k : ℕ) → k < length ms → get_or (entries_of f g ms) (2 * k + 1) 0 ≡ g (get_or ms k no_message)
  unfolding entries_of
  entries_checkpoint [] k l = absurd (not-suc-le-zero l)
  entries_checkpoint (m ∷ rest) zero l = refl
  entries_checkpoint (m ∷ rest) (suc k) l =
      let place : 2 * suc k + 1 ≡ suc (suc (2 * k + 1)) = omega arith in
      rw place (entries_checkpoint rest k (le_of_suc-le-suc l))

  pub entries_append : (xs ys : List Message) → entries_of f g (xs ++ ys) ≡ entries_of f g xs ++ entries_of f g ys
  unfolding entries_of
  entries_append [] ys = refl
  entries_append (m ∷ rest) ys = ap (λ (l : List ℕ). f m ∷ g m ∷ l) (entries_append rest ys)

-- Every number of a table fits 16 bits.
pub record Fits16 (t : Table) : Type 0 where
  pub processes_fit : process_count t < 65536
  pub messages_fit : message_count t < 65536
  pub counts_fit : (p : ℕ) → p < process_count t → count_of t p < 65536
  pub senders_fit : (k : ℕ) → k < message_count t → (message_of t k).sender < 65536
  pub sent_fit : (k : ℕ) → k < message_count t → (message_of t k).sent < 65536
  pub receivers_fit : (k : ℕ) → k < message_count t → (message_of t k).receiver < 65536
  pub received_fit : (k : ℕ) → k < message_count t → (message_of t k).received < 65536

-- the numbers of a table, in the order of its bytes
abbrev numbers_of : Table → List ℕ
numbers_of t = length t.counts ∷ length t.messages ∷ (t.counts ++ (sends_of t.messages ++ receipts_of t.messages))

module _ (t : Table) (fits : Fits16 t) where
  abbrev N : ℕ
  N = length t.counts

  abbrev M : ℕ
  M = length t.messages

  abbrev sends : List ℕ
  sends = sends_of t.messages

  abbrev receipts : List ℕ
  receipts = receipts_of t.messages

  length_numbers : length (numbers_of t) ≡ 2 + N + 4 * M
  length_numbers =
      omega (
        arith,
        length-append t.counts (sends ++ receipts),
        length-append sends receipts,
        length_entries (λ m. m.sender) (λ m. m.sent) t.messages,
        length_entries (λ m. m.receiver) (λ m. m.received) t.messages,
      )

  -- number j of the table stands at byte 2j
  number_at_lem : (j x : ℕ) → j < 2 + N + 4 * M → get_or (numbers_of t) j 0 ≡ x → x < 65536 → u16_at (encode t) (2 * j) ≡ x
  unfolding encode
  number_at_lem j x l e b =
      ap (λ (bytes : List ℕ). u16_at bytes (2 * j)) (sym (append-nil (u16s (numbers_of t))))
      ∙ u16_at-u16s (numbers_of t) [] j (subst⁻¹ (λ (n : ℕ). j < n) length_numbers l) (subst⁻¹ (λ (n : ℕ). n < 65536) e b)
      ∙ e

  count_number : (p : ℕ) → p < N → get_or (numbers_of t) (2 + p) 0 ≡ count_of t p
  unfolding count_of
  count_number p l =
      let place : 2 + p ≡ suc (suc p) = omega arith in
      rw place (get_or-append t.counts (sends ++ receipts) 0 p l)

  -- number i of the sends and of the receipts
  send-number : (i : ℕ) → i < 2 * M → get_or (numbers_of t) (2 + N + i) 0 ≡ get_or sends i 0
  send-number i l =
      let place : 2 + N + i ≡ suc (suc (N + i)) = omega arith in
      rw place (get_or-append-add t.counts (sends ++ receipts) i 0
      ∙ get_or-append sends receipts 0 i (omega (arith, length_entries (λ m. m.sender) (λ m. m.sent) t.messages)))

  receipt_number : (i : ℕ) → get_or (numbers_of t) (2 + N + 2 * M + i) 0 ≡ get_or receipts i 0
  receipt_number i =
      let place : 2 + N + 2 * M + i ≡ suc (suc (N + (length sends + i))) = omega (arith, length_entries (λ m. m.sender) (λ m. m.sent) t.messages) in
      rw place (get_or-append-add t.counts (sends ++ receipts) (length sends + i) 0 ∙ get_or-append-add sends receipts i 0)

  encoded_processes : N ≡ u16_at (encode t) 0
  unfolding process_count
  encoded_processes = sym (number_at_lem 0 N (omega arith) refl fits.processes_fit)

  encoded_messages : M ≡ u16_at (encode t) 2
  unfolding message_count
  encoded_messages = sym (number_at_lem 1 M (omega arith) refl fits.messages_fit)

  sizes : ReadSizes (encode t) N M
  sizes = record { n_is = encoded_processes; m_is = encoded_messages }

  encoded_count : (p : ℕ) → p < N → count_of (decode (encode t)) p ≡ count_of t p
  unfolding process_count
  encoded_count p l =
      let place : counts_at + 2 * p ≡ 2 * (2 + p) = omega arith in
      count_some (encode t) encoded_processes l ∙ ap (u16_at (encode t)) place
      ∙ number_at_lem (2 + p) (count_of t p) (omega arith) (count_number p l) (fits.counts_fit p l)

  encoded_message : (k : ℕ) → k < M → message_of (decode (encode t)) k ≡ message_of t k
  unfolding message_count message_of
  encoded_message k l =
      let a : sends_at N + 4 * k ≡ 2 * (2 + N + 2 * k) = omega arith in
      let b : sends_at N + (4 * k + 2) ≡ 2 * (2 + N + (2 * k + 1)) = omega arith in
      let c : receipts_at N M + 4 * k ≡ 2 * (2 + N + 2 * M + 2 * k) = omega arith in
      let d : receipts_at N M + (4 * k + 2) ≡ 2 * (2 + N + 2 * M + (2 * k + 1)) = omega arith in
      let sender = send-number (2 * k) (omega arith) ∙ entries_process (λ m. m.sender) (λ m. m.sent) t.messages k l in
      let sent = send-number (2 * k + 1) (omega arith) ∙ entries_checkpoint (λ m. m.sender) (λ m. m.sent) t.messages k l in
      let receiver = receipt_number (2 * k) ∙ entries_process (λ m. m.receiver) (λ m. m.received) t.messages k l in
      let received = receipt_number (2 * k + 1) ∙ entries_checkpoint (λ m. m.receiver) (λ m. m.received) t.messages k l in
      message_path _ (message_of t k)
      (sym (sender_there sizes l refl refl) ∙ ap (u16_at (encode t)) a ∙ number_at_lem _ _ (omega arith) sender (fits.senders_fit k l))
      (sym (sent_there sizes l refl refl) ∙ ap (u16_at (encode t)) b ∙ number_at_lem _ _ (omega arith) sent (fits.sent_fit k l))
      (sym (receiver_there sizes l refl refl) ∙ ap (u16_at (encode t)) c ∙ number_at_lem _ _ (omega arith) receiver (fits.receivers_fit k l))
      (sym (received-there sizes l refl refl) ∙ ap (u16_at (encode t)) d ∙ number_at_lem _ _ (omega arith) received (fits.received_fit k l))

  pub decode-encode : decode (encode t) ≡ t
  unfolding process_count message_count count_of message_of processes_in messages_in
  decode-encode =
      let processes : length (decode (encode t)).counts ≡ N = decode-processes (encode t) ∙ sym encoded_processes in
      let messages : length (decode (encode t)).messages ≡ M = decode-messages (encode t) ∙ sym encoded_messages in
      table-path (decode (encode t)) t
      (ext_get_or 0 (decode (encode t)).counts t.counts processes (λ p l. encoded_count p (subst (λ (n : ℕ). p < n) processes l)))
      (ext_get_or no_message (decode (encode t)).messages t.messages messages (λ k l. encoded_message k (subst (λ (n : ℕ). k < n) messages l)))

-- ---- reading, then writing
-- Every byte is below 256.
unfoldable pub AreBytes : List ℕ → Type 0
AreBytes bytes = (i : ℕ) → get_or bytes i 0 < 256

bytes_read : (w : ℕ) (bytes : List ℕ) → w ≤ length bytes → AreBytes bytes → bytes_of w (number_at w bytes 0) ≡ take w bytes
unfolding bytes_of number_at AreBytes
bytes_read zero bytes l b = refl
bytes_read (suc w) [] l b = absurd (omega arith)
bytes_read (suc w) (x ∷ rest) l b =
    let later : number_at w (x ∷ rest) (0 + 1) ≡ number_at w rest 0 = later-number w (x ∷ []) rest 0 in
    let low : (x + 256 * number_at w rest 0) % 256 ≡ x = omega (arith, b 0) in
    let high : (x + 256 * number_at w rest 0) / 256 ≡ number_at w rest 0 = omega (arith, b 0) in
    rw (later, low, high) (ap (λ (l : List ℕ). x ∷ l) (bytes_read w rest (le_of_suc-le-suc l) (λ i. b (suc i))))

-- the numbers at the front of the bytes, one after another, give these bytes again; all of them give all bytes
pub front_read : (w n : ℕ) (bytes : List ℕ) → w * n ≤ length bytes → AreBytes bytes
    → bytes_of_all w (tabulate n (λ j. number_at w bytes (w * j))) ≡ take (w * n) bytes
unfolding bytes_of_all tabulate AreBytes
front_read w zero bytes l b = rw mul-zero
front_read w (suc n) bytes l b =
    let room : w + w * n ≤ length bytes = omega (arith, l, mul-suc w n) in
    let first = ap (λ (at : ℕ). bytes_of w (number_at w bytes at)) (mul-zero w) ∙ bytes_read w bytes (omega arith) b in
    let same : tabulate n (λ j. number_at w bytes (w * suc j)) ≡ tabulate n (λ j. number_at w (drop w bytes) (w * j)) =
    tabulate_ext n _ _ (λ j l. ap (number_at w bytes) (mul-suc w j ∙ add_comm (w * j) w) ∙ sym (number_at-drop w w bytes (w * j))) in
    let rest = front_read w n (drop w bytes) (omega (arith, length-drop w bytes)) (λ i. rw (get_or-drop w bytes i 0) (b (w + i))) in
    ap₂ (λ (x y : List ℕ). x ++ y) first (ap (bytes_of_all w) same ∙ rest)
    ∙ sym (ap (λ (i : ℕ). take i bytes) (mul-suc w n ∙ add_comm (w * n) w) ∙ take-add w (w * n) bytes)

pub all_read : (w n : ℕ) (bytes : List ℕ) → length bytes ≡ w * n → AreBytes bytes
    → bytes_of_all w (tabulate n (λ j. number_at w bytes (w * j))) ≡ bytes
all_read w n bytes e b = front_read w n bytes (omega (arith, e)) b ∙ ap (λ (i : ℕ). take i bytes) (sym e) ∙ take-length bytes

-- where the numbers of each part stand
count_byte : (p : ℕ) → counts_at + 2 * p ≡ 2 * suc (suc p)
count_byte p = omega arith

process_byte : (n k : ℕ) → sends_at n + 4 * k ≡ 2 * suc (suc (n + 2 * k))
process_byte n k = omega arith

checkpoint_byte : (n k : ℕ) → sends_at n + (4 * k + 2) ≡ 2 * suc (suc (n + (2 * k + 1)))
checkpoint_byte n k = omega arith

process_byte' : (n m k : ℕ) → receipts_at n m + 4 * k ≡ 2 * suc (suc (n + (2 * m + 2 * k)))
process_byte' n m k = omega arith

checkpoint_byte' : (n m k : ℕ) → receipts_at n m + (4 * k + 2) ≡ 2 * suc (suc (n + (2 * m + (2 * k + 1))))
checkpoint_byte' n m k = omega arith

twice_suc : (k : ℕ) → 2 * suc k ≡ suc (suc (2 * k))
twice_suc k = omega arith

double : (k i : ℕ) → 2 * suc k + i ≡ suc (suc (2 * k + i))
double k i = omega arith

-- entries that are the even and the odd numbers of w, one after another
pub entries_tabulate : (f g : Message → ℕ) (m : ℕ) (h : ℕ → Message) (w : ℕ → ℕ)
    → ((k : ℕ) → k < m → f (h k) ≡ w (2 * k)) → ((k : ℕ) → k < m → g (h k) ≡ w (2 * k + 1))
    → entries_of f g (tabulate m h) ≡ tabulate (2 * m) w
unfolding entries_of tabulate
entries_tabulate f g zero h w a b = refl
entries_tabulate f g (suc m) h w a b =
    let twice : 2 * suc m ≡ suc (suc (2 * m)) = omega arith in
    let first : f (h zero) ≡ w 0 = a zero (omega arith) in
    let second : g (h zero) ≡ w 1 = b zero (omega arith) in
    let rest : entries_of f g (tabulate m (λ k. h (suc k))) ≡ tabulate (2 * m) (λ i. w (suc (suc i))) =
    entries_tabulate f g m (λ k. h (suc k)) (λ i. w (suc (suc i)))
    (λ k l. a (suc k) (omega arith) ∙ ap w (twice_suc k))
    (λ k l. b (suc k) (omega arith) ∙ ap w (double k 1))
    in
    rw (twice, first, second, rest)

module _ (bytes : List ℕ) where
  abbrev w : ℕ → ℕ
  w j = u16_at bytes (2 * j)

  abbrev n : ℕ
  n = processes_in bytes

  abbrev m : ℕ
  m = messages_in bytes

  counts_read : tabulate n (count_at (counts_part bytes)) ≡ tabulate n (λ p. w (suc (suc p)))
  counts_read = tabulate_ext n _ _ (λ p l. count_place bytes p l ∙ ap (u16_at bytes) (count_byte p))

  sends_read : sends_of (tabulate m (message_at (sends_part bytes) (receipts_part bytes))) ≡ tabulate (2 * m) (λ i. w (suc (suc (n + i))))
  unfolding message_at process_at checkpoint_at
  sends_read =
      entries_tabulate (λ x. x.sender) (λ x. x.sent) m (message_at (sends_part bytes) (receipts_part bytes)) (λ i. w (suc (suc (n + i))))
      (λ k l. send_place bytes (4 * k) (omega arith) ∙ ap (u16_at bytes) (process_byte n k))
      (λ k l. send_place bytes (4 * k + 2) (omega arith) ∙ ap (u16_at bytes) (checkpoint_byte n k))

  receipts_read : receipts_of (tabulate m (message_at (sends_part bytes) (receipts_part bytes))) ≡ tabulate (2 * m) (λ i. w (suc (suc (n + (2 * m + i)))))
  unfolding message_at process_at checkpoint_at
  receipts_read =
      entries_tabulate (λ x. x.receiver) (λ x. x.received) m (message_at (sends_part bytes) (receipts_part bytes)) (λ i. w (suc (suc (n + (2 * m + i)))))
      (λ k l. receipt_place bytes (4 * k) (omega arith) ∙ ap (u16_at bytes) (process_byte' n m k))
      (λ k l. receipt_place bytes (4 * k + 2) (omega arith) ∙ ap (u16_at bytes) (checkpoint_byte' n m k))

  -- the numbers of the decoded table are those of the bytes, in order
  processes_read : length (decode bytes).counts ≡ w 0
  unfolding processes_in process_count
  processes_read = decode-processes bytes

  messages_read : length (decode bytes).messages ≡ w 1
  unfolding messages_in message_count
  messages_read = decode-messages bytes

  arrays_read : (decode bytes).counts ++ (sends_of (decode bytes).messages ++ receipts_of (decode bytes).messages)
      ≡ tabulate (n + (2 * m + 2 * m)) (λ j. w (suc (suc j)))
  unfolding decode
  arrays_read =
      let a = tabulate-append n (2 * m + 2 * m) (λ j. w (suc (suc j))) in
      let b = tabulate-append (2 * m) (2 * m) (λ j. w (suc (suc (n + j)))) in
      rw (a, b, counts_read, sends_read, receipts_read)

  numbers_read : numbers_of (decode bytes) ≡ tabulate (suc (suc (n + (2 * m + 2 * m)))) w
  unfolding tabulate
  numbers_read = cc (processes_read, messages_read, arrays_read)

  pub encode-decode : length bytes ≡ table_length n m → AreBytes bytes → encode (decode bytes) ≡ bytes
  unfolding encode
  encode-decode whole b =
      ap u16s numbers_read ∙ all_read 2 (suc (suc (n + (2 * m + 2 * m)))) bytes (omega arith) b

-- the two numbers of entry k of an array
pub even_number : (part : List ℕ) (k : ℕ) → u16_at part (4 * k) ≡ u16_at part (2 * (2 * k))
even_number part k =
    let place : 4 * k ≡ 2 * (2 * k) = omega arith in
    ap (u16_at part) place

pub odd_number : (part : List ℕ) (k : ℕ) → u16_at part (4 * k + 2) ≡ u16_at part (2 * (2 * k + 1))
odd_number part k =
    let place : 4 * k + 2 ≡ 2 * (2 * k + 1) = omega arith in
    ap (u16_at part) place

-- the numbers of the parts, one after another, are those of the decoded table
module _ (bytes : List ℕ) where
  pub sends_numbers : sends_of (decode bytes).messages ≡ tabulate (2 * messages_in bytes) (λ i. u16_at (sends_part bytes) (2 * i))
  unfolding decode message_at process_at checkpoint_at
  sends_numbers =
      entries_tabulate (λ x. x.sender) (λ x. x.sent) (messages_in bytes) (message_at (sends_part bytes) (receipts_part bytes))
      (λ i. u16_at (sends_part bytes) (2 * i)) (λ k _. even_number (sends_part bytes) k) (λ k _. odd_number (sends_part bytes) k)

  pub receipts_numbers : receipts_of (decode bytes).messages ≡ tabulate (2 * messages_in bytes) (λ i. u16_at (receipts_part bytes) (2 * i))
  unfolding decode message_at process_at checkpoint_at
  receipts_numbers =
      entries_tabulate (λ x. x.receiver) (λ x. x.received) (messages_in bytes) (message_at (sends_part bytes) (receipts_part bytes))
      (λ i. u16_at (receipts_part bytes) (2 * i)) (λ k _. even_number (receipts_part bytes) k) (λ k _. odd_number (receipts_part bytes) k)
