-- The kinds of document 01's event table by number.
use Rattle.std.specs.Prelude.{ℕ}

abbrev pub kind_load : ℕ
kind_load = 1

abbrev pub kind_store : ℕ
kind_store = 2

abbrev pub kind_load_miss : ℕ
kind_load_miss = 3

abbrev pub kind_store_miss : ℕ
kind_store_miss = 4

abbrev pub kind_evict : ℕ
kind_evict = 5

abbrev pub kind_send_acquire : ℕ
kind_send_acquire = 6

abbrev pub kind_take_acquire : ℕ
kind_take_acquire = 7

abbrev pub kind_send_probe : ℕ
kind_send_probe = 8

abbrev pub kind_take_probe : ℕ
kind_take_probe = 9

abbrev pub kind_send_probe_ack : ℕ
kind_send_probe_ack = 10

abbrev pub kind_take_probe_ack : ℕ
kind_take_probe_ack = 11

abbrev pub kind_take_grant : ℕ
kind_take_grant = 12

abbrev pub kind_send_grant_ack : ℕ
kind_send_grant_ack = 13

abbrev pub kind_send_grant : ℕ
kind_send_grant = 14

abbrev pub kind_take_grant_ack : ℕ
kind_take_grant_ack = 15

abbrev pub kind_send_release : ℕ
kind_send_release = 16

abbrev pub kind_take_release : ℕ
kind_take_release = 17

abbrev pub kind_send_release_ack : ℕ
kind_send_release_ack = 18

abbrev pub kind_take_release_ack : ℕ
kind_take_release_ack = 19
