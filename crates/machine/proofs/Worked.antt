-- Lists of calls worked out by hand from REFERENCE, with what it says is answered, and one computed proof that the definitions
-- answer the same. They hold what demand 3 leaves open, such as the order in which seats are filled, and each definition by numbers
-- that do not come from the code. Two lists are by rules that no document has. Assumes
-- nothing.
use mathlib.Core.Path.{◌≡◌, refl}
use mathlib.Core.Bool.{true, false}
use mathlib.Core.List.{List, [], ◌∷◌, ◌++◌, map}
use Prim.Native.Nat.{ℕ}
use lib.ListN.{replicate}
use lib.IntN.{pos, negsuc}
use lib.Ieee.{Float, nan, fin, add, sub, mul, le}
use Rattle.kernel.specs.declared.Choice.TheVariants.{Binomial, Smallest}
use Rattle.kernel.specs.Molecule.{kernel_with}
use Rattle.kernel.specs.Existence.{kernel_exists, free_fits}
use Rattle.image.specs.Image.{pixel_at, entries, rows}
use Rattle.covariance.specs.declared.Shape.{Shape}
use Rattle.covariance.specs.declared.Shape.TheVariants.{Matrix, Round, Oval}
use Rattle.covariance.specs.Floats.{in_range}
use Rattle.covariance.specs.Units.{nearest_units}
use Rattle.covariance.specs.Shapes.{variance_in_range, cosine_in_range, square_in_range, direction_in_range, variances_fine, direction_fine, covariance_xx, covariance_xy, covariance_yy}
use Rattle.averaging.specs.Steps.{iterate, step_of, weighted_at}
use Rattle.machine.specs.declared.Slot.{Slot}
use Rattle.machine.specs.declared.Service.{Service}
use Rattle.machine.specs.Rules.{base_rules, choice_rules}
use Rattle.machine.specs.Slots.{first_from, count_of, every_place}
use Rattle.machine.specs.Order.{all_zero, filled_fine, slot_fine, in_order, usable}
use Rattle.machine.specs.Calls.{submit, tick, collect, withdraw, free_buffers, submit_checks, submit_of, tick_of, collect_checks, collect_of, withdraw_of, free_count_of}
use Rattle.machine.specs.History.{calling, changing, opened, after, since, job_of, held, ticks_of, numbers, how_many, withdrawn_in, ticks_in}
use Rattle.machine.specs.Demand.{all_accepted}
use Rattle.machine.proofs.Lines.{Worked, computed, called, counted, stands, stored, word, job, given, accepted, waits, lone, changes, chooses, submits_by, submits, submit_refused, ticks, idles, collects, collect_refused, withdraws, withdraw_refused, free, seat, seat_with, none, keeps, placed_by, placed}

-- ---- pictures and shapes
-- a store "of any value"
abbrev pub sevens : List ℕ
sevens = replicate 16384 7

-- with k = 2: M is 8192, f is 0, 8192 on either side and 16384 in the centre, of 32768: a quarter, a half, a quarter along the
-- row. The pixels 0 16 become 4 12 (a half and a quarter of 0 and a quarter of 16; a quarter of 0, a half and a quarter of 16), and
-- those 6 10
abbrev pub along : Shape
along = Matrix (pos 4096) (pos 0) (pos 0)

-- shape f, of case k
abbrev pub leaning : Shape
leaning = Matrix (pos 1000) (pos 1000) (pos 1000)

-- three numbers that all differ, with a kernel for k = 3: M is 12288, f is 512. A picture of one pixel stays as it is
abbrev pub uneven : Shape
uneven = Matrix (pos 2048) (negsuc 511) (pos 3072)

-- case b, the centre only; and case g, which has no kernel
abbrev pub still : Shape
still = Matrix (pos 0) (pos 0) (pos 0)

abbrev pub no_kernel_lem : Shape
no_kernel_lem = Matrix (pos 1000) (pos 1001) (pos 1000)

abbrev pub one : Float
one = fin false 1 (pos 0)

abbrev pub half : Float
half = fin false 1 (negsuc 0)

abbrev pub zero : Float
zero = fin false 0 (pos 0)

abbrev pub oval : Float → Float → Float → Shape
oval long c s = Oval long half (record { cosine = c; sine = s })

-- ---- a service's day
abbrev pub day : Worked
day =
    record {
      from = opened base_rules sevens;
      lines =
          -- "Opening: all empty, last number 0, both named seats 7"
          stands (keeps (none ∷ none ∷ none ∷ none ∷ none ∷ none ∷ none ∷ none ∷ []) 0 7 7)
          ∷ free 16
          ∷ given [] 0
          ∷ accepted true
          -- "It answers idle where no seat has steps left"; "No seat has this job number (0 included)"
          ∷ idles
          ∷ accepted false
          ∷ collect_refused 0 (9 ∷ []) 7
          ∷ withdraw_refused 0 7
          -- three jobs, in seats 0, 1 and 2, each copied to the start of buffer 2i
          ∷ submits along 2 2 1 (0 ∷ 16 ∷ []) 1
          ∷ submits uneven 3 1 1 (5 ∷ []) 2
          ∷ submits leaning 1 2 2 (16384 ∷ 0 ∷ 0 ∷ 0 ∷ []) 3
          ∷ stands
          (keeps
          (seat 1 (pos 4096) (pos 0) (pos 0) 2 2 2 1
          ∷ seat 2 (pos 2048) (negsuc 511) (pos 3072) 3 3 1 1
          ∷ seat 3 (pos 1000) (pos 1000) (pos 1000) 1 1 2 2
          ∷ none ∷ none ∷ none ∷ none ∷ none ∷ [])
          3 2 7)
          ∷ free 10
          ∷ stored 0 (0 ∷ 16 ∷ 7 ∷ [])
          ∷ stored 2047 (7 ∷ 5 ∷ 7 ∷ [])
          ∷ stored 4095 (7 ∷ 16384 ∷ 0 ∷ 0 ∷ 0 ∷ 7 ∷ [])
          ∷ job 2 (record { rules = base_rules; choice = Smallest; shape = uneven; steps = 3; width = 1; height = 1; picture = 5 ∷ [] })
          -- of a number that no submit answered, a job of no steps
          ∷ job 4 (record { rules = base_rules; choice = Smallest; shape = still; steps = 0; width = 0; height = 0; picture = [] })
          -- ticks in turn, each "to the seat's other" buffer, "w × h pixels only"; a collect before the last step: 8, before 9
          ∷ ticks 1
          ∷ stored 0 (0 ∷ 16 ∷ 7 ∷ [])
          ∷ stored 1023 (7 ∷ 4 ∷ 12 ∷ 7 ∷ [])
          ∷ collect_refused 1 (9 ∷ 9 ∷ []) 8
          ∷ collect_refused 1 (9 ∷ []) 8
          ∷ ticks 2
          ∷ stored 3071 (7 ∷ 5 ∷ 7 ∷ [])
          ∷ ticks 3
          ∷ stored 5119 (7 ∷ 14384 ∷ 2000 ∷ 2000 ∷ 2000 ∷ 7 ∷ [])
          ∷ ticks 1
          ∷ stored 0 (6 ∷ 10 ∷ 7 ∷ [])
          ∷ stored 1023 (7 ∷ 4 ∷ 12 ∷ 7 ∷ [])
          ∷ stands
          (keeps
          (seat 1 (pos 4096) (pos 0) (pos 0) 2 0 2 1
          ∷ seat 2 (pos 2048) (negsuc 511) (pos 3072) 3 2 1 1
          ∷ seat 3 (pos 1000) (pos 1000) (pos 1000) 1 0 2 2
          ∷ none ∷ none ∷ none ∷ none ∷ none ∷ [])
          3 2 0)
          ∷ word 1 true 2 0 true
          ∷ word 2 true 1 2 false
          ∷ word 3 true 1 0 true
          ∷ word 4 false 0 0 true
          -- an early collect, with a picture of another length first; what is handed over is case k's picture
          ∷ collect_refused 3 (9 ∷ 9 ∷ 9 ∷ []) 9
          ∷ collects 3 (9 ∷ 9 ∷ 9 ∷ 9 ∷ []) (14384 ∷ 2000 ∷ 2000 ∷ 2000 ∷ [])
          ∷ word 3 false 1 0 true
          ∷ given (3 ∷ 2 ∷ 1 ∷ []) 2
          ∷ free 12
          -- "the first empty seat counted on cyclically from the one after the seat last filled": seat 3, and not seat 2, which the
          -- collect emptied and which is the first after the seat last served
          ∷ submits still 1 1 1 (8 ∷ []) 4
          ∷ stands
          (keeps
          (seat 1 (pos 4096) (pos 0) (pos 0) 2 0 2 1
          ∷ seat 2 (pos 2048) (negsuc 511) (pos 3072) 3 2 1 1
          ∷ none
          ∷ seat 4 (pos 0) (pos 0) (pos 0) 1 1 1 1
          ∷ none ∷ none ∷ none ∷ none ∷ [])
          4 3 0)
          ∷ stored 6143 (7 ∷ 8 ∷ 7 ∷ [])
          -- the wait: job 2 has 2 steps left, and 8 × 2 ticks may follow
          ∷ waits 2 (replicate 16 (calling tick)) 16 true false
          ∷ waits 2 (calling tick ∷ calling (withdraw 2) ∷ replicate 15 (calling tick)) 16 false true
          ∷ waits 2 (map calling (tick ∷ tick ∷ submit Smallest still 1 1 1 (6 ∷ []) ∷ withdraw 1 ∷ [])) 2 false false
          -- seats 1, 3 and 1 are served; a collect and a refused withdraw of it are no withdraw, nor is one of another job
          ∷ waits 2 (map calling (tick ∷ tick ∷ tick ∷ collect 2 (9 ∷ []) ∷ withdraw 2 ∷ withdraw 1 ∷ [])) 3 true false
          ∷ waits 2 [] 0 false false
          -- a tick goes on from the seat last served; a withdraw of a job that is not finished; then idle, which changes nothing
          ∷ ticks 2
          ∷ stored 2047 (7 ∷ 5 ∷ 7 ∷ [])
          ∷ ticks 4
          ∷ stored 7167 (7 ∷ 8 ∷ 7 ∷ [])
          ∷ withdraws 2
          ∷ word 2 false 2 1 false
          ∷ idles
          ∷ stands
          (keeps
          (seat 1 (pos 4096) (pos 0) (pos 0) 2 0 2 1
          ∷ none ∷ none
          ∷ seat 4 (pos 0) (pos 0) (pos 0) 1 0 1 1
          ∷ none ∷ none ∷ none ∷ none ∷ [])
          4 3 3)
          ∷ collects 1 (9 ∷ 9 ∷ []) (6 ∷ 10 ∷ [])
          -- no longer held, and never given; 7 before 9
          ∷ collect_refused 1 (9 ∷ 9 ∷ []) 7
          ∷ withdraw_refused 2 7
          ∷ collect_refused 5 (9 ∷ []) 7
          ∷ free 14
          -- the other seats, cyclically: 4, 5, 6, 7, 0, 1 and 2
          ∷ submits still 2 1 1 (25 ∷ []) 5
          ∷ submits still 2 1 1 (26 ∷ []) 6
          ∷ submits still 2 1 1 (27 ∷ []) 7
          ∷ submits still 2 1 1 (28 ∷ []) 8
          ∷ submits still 2 1 1 (29 ∷ []) 9
          ∷ submits still 2 1 1 (30 ∷ []) 10
          ∷ free 2
          ∷ submits still 2 1 1 (31 ∷ []) 11
          ∷ free 0
          ∷ stored 14335 (7 ∷ 28 ∷ 7 ∷ [])
          ∷ stored 4095 (7 ∷ 31 ∷ 0 ∷ [])
          -- eight jobs are held: 12; and 11 before it
          ∷ submit_refused still 1 1 1 (1 ∷ []) 12
          ∷ submit_refused no_kernel_lem 1 1 1 (1 ∷ []) 11
          ∷ withdraws 8
          ∷ submits still 64 1 1 (32 ∷ []) 12
          ∷ ticks 5
          ∷ stands
          (keeps
          (seat 9 (pos 0) (pos 0) (pos 0) 2 2 1 1
          ∷ seat 10 (pos 0) (pos 0) (pos 0) 2 2 1 1
          ∷ seat 11 (pos 0) (pos 0) (pos 0) 2 2 1 1
          ∷ seat 4 (pos 0) (pos 0) (pos 0) 1 0 1 1
          ∷ seat 5 (pos 0) (pos 0) (pos 0) 2 1 1 1
          ∷ seat 6 (pos 0) (pos 0) (pos 0) 2 2 1 1
          ∷ seat 7 (pos 0) (pos 0) (pos 0) 2 2 1 1
          ∷ seat 12 (pos 0) (pos 0) (pos 0) 64 64 1 1
          ∷ [])
          12 7 4)
          ∷ given (12 ∷ 11 ∷ 10 ∷ 9 ∷ 8 ∷ 7 ∷ 6 ∷ 5 ∷ 4 ∷ 3 ∷ 2 ∷ 1 ∷ []) 8
          ∷ [];
    }

-- ---- the refusals of a submit in checking order: each call fails two of them that stand side by side, or the last alone
abbrev pub refusals : Worked
refusals =
    record {
      from = opened base_rules sevens;
      lines =
          submit_refused (Round nan) 0 1 1 (1 ∷ []) 3
          ∷ submit_refused (Round (fin true 1 (pos 0))) 1 1 1 (1 ∷ []) 3
          ∷ submit_refused (Round (fin false 65 (pos 0))) 64 1 1 (1 ∷ []) 3
          ∷ submit_refused (oval nan one one) 1 1 1 (1 ∷ []) 3
          ∷ submit_refused (oval one one one) 0 1 1 (1 ∷ []) 4
          ∷ submit_refused still 0 0 1 [] 5
          ∷ submit_refused still 65 1 1 (1 ∷ []) 5
          ∷ submit_refused still 1 0 1 (1 ∷ []) 6
          ∷ submit_refused still 1 1 1025 (1 ∷ []) 6
          ∷ submit_refused still 1 1024 2 [] 9
          ∷ submit_refused no_kernel_lem 1 1 2 (1 ∷ []) 9
          ∷ submit_refused no_kernel_lem 1 41 25 (replicate 1025 1) 10
          ∷ submit_refused no_kernel_lem 1 1 1 (1 ∷ []) 11
          -- case h, and case d with too few steps
          ∷ submit_refused (Matrix (negsuc 0) (pos 0) (pos 0)) 1 1 1 (1 ∷ []) 11
          ∷ submit_refused (Matrix (pos 4097) (pos 0) (pos 4096)) 1 1 1 (1 ∷ []) 11
          -- "record, store and every lent buffer keep their contents"
          ∷ stands (keeps (none ∷ none ∷ none ∷ none ∷ none ∷ none ∷ none ∷ none ∷ []) 0 7 7)
          ∷ stored 0 (7 ∷ 7 ∷ [])
          ∷ free 16
          ∷ given [] 0
          ∷ [];
    }

-- ---- shapes in floats: "Round gives xx = yy = the variance, xy = 0"; an Oval on either axis; a picture as large as a buffer
abbrev pub floats : Worked
floats =
    record {
      from = opened base_rules sevens;
      lines =
          submits (Round one) 1 1 1 (3 ∷ []) 1
          ∷ submits (oval one one zero) 1 1 1 (3 ∷ []) 2
          ∷ submits (oval one zero one) 1 1 1 (3 ∷ []) 3
          ∷ submits still 1 1024 1 (replicate 1024 3) 4
          ∷ accepted true
          ∷ stands
          (keeps
          (seat 1 (pos 4096) (pos 0) (pos 4096) 1 1 1 1
          ∷ seat 2 (pos 4096) (pos 0) (pos 2048) 1 1 1 1
          ∷ seat 3 (pos 2048) (pos 0) (pos 4096) 1 1 1 1
          ∷ seat 4 (pos 0) (pos 0) (pos 0) 1 1 1024 1
          ∷ none ∷ none ∷ none ∷ none ∷ [])
          4 3 7)
          ∷ stored 6143 (7 ∷ 3 ∷ [])
          ∷ stored 7167 (3 ∷ 7 ∷ [])
          ∷ lone (record { rules = base_rules; choice = Smallest; shape = leaning; steps = 3; width = 2; height = 1; picture = 0 ∷ 16 ∷ [] })
          (map calling (submit Smallest leaning 3 2 1 (0 ∷ 16 ∷ []) ∷ tick ∷ tick ∷ tick ∷ []))
          ∷ [];
    }

-- ---- "The last number given is 2^64 − 1", 18446744073709551615; and 12 before 13
abbrev pub used_up : List Worked
used_up =
    record {
      from = placed (keeps (none ∷ none ∷ none ∷ none ∷ none ∷ none ∷ none ∷ none ∷ []) 18446744073709551614 7 7) sevens;
      lines =
          submits still 1 1 1 (1 ∷ []) 18446744073709551615
          ∷ submit_refused still 1 1 1 (1 ∷ []) 13
          ∷ ticks 18446744073709551615
          ∷ collects 18446744073709551615 (9 ∷ []) (1 ∷ [])
          ∷ submit_refused still 1 1 1 (1 ∷ []) 13
          ∷ [];
    }
    ∷ record {
      from =
          placed
          (keeps
          (seat 1 (pos 0) (pos 0) (pos 0) 1 0 1 1
          ∷ seat 2 (pos 0) (pos 0) (pos 0) 1 0 1 1
          ∷ seat 3 (pos 0) (pos 0) (pos 0) 1 0 1 1
          ∷ seat 4 (pos 0) (pos 0) (pos 0) 1 0 1 1
          ∷ seat 5 (pos 0) (pos 0) (pos 0) 1 0 1 1
          ∷ seat 6 (pos 0) (pos 0) (pos 0) 1 0 1 1
          ∷ seat 7 (pos 0) (pos 0) (pos 0) 1 0 1 1
          ∷ seat 18446744073709551615 (pos 0) (pos 0) (pos 0) 1 0 1 1
          ∷ [])
          18446744073709551615 7 7)
          sevens;
      lines =
          free 0
          ∷ submit_refused still 1 1 1 (1 ∷ []) 12
          ∷ withdraws 18446744073709551615
          ∷ submit_refused still 1 1 1 (1 ∷ []) 13
          ∷ [];
    }
    ∷ []

-- ---- a store of another length: 2, before 3 and 7; a withdraw and the free count are lent none
abbrev pub wrong_store : List ℕ → Worked
wrong_store store =
    record {
      from = opened base_rules store;
      lines =
          submit_refused (Round nan) 1 1 1 (1 ∷ []) 2
          ∷ called tick 2 [] []
          ∷ collect_refused 0 (9 ∷ []) 2
          ∷ withdraw_refused 0 7
          ∷ free 16
          ∷ [];
    }

-- ---- records: one of a seat and the last number, in order or not
abbrev pub in_order_lem : Service → ℕ → Worked
in_order_lem r buffers = record { from = placed r sevens; lines = free buffers ∷ withdraw_refused 0 7 ∷ stands r ∷ [] }

abbrev pub not_in_order_lem : Service → Worked
not_in_order_lem r =
    record {
      from = placed r sevens;
      lines =
          submit_refused (Round nan) 1 1 1 (1 ∷ []) 2
          ∷ called tick 2 [] []
          ∷ collect_refused 0 (9 ∷ []) 2
          ∷ withdraw_refused 0 2
          ∷ counted 2 []
          ∷ stands r
          ∷ stored 0 (7 ∷ 7 ∷ [])
          ∷ [];
    }

abbrev pub only : Slot → ℕ → Service
only s last = keeps (s ∷ none ∷ none ∷ none ∷ none ∷ none ∷ none ∷ none ∷ []) last 0 7

-- a job of one step over one pixel
abbrev pub one_pixel : ℕ → Slot
one_pixel number = seat number (pos 0) (pos 0) (pos 0) 1 1 1 1

abbrev pub records : List Worked
records =
    -- "each filled one meets refusals 5, 6 and 10's limits": 64 steps, and pictures as wide and as high as can be
    in_order_lem (only (seat 3 (pos 2048) (negsuc 511) (pos 3072) 3 3 4 5) 3) 14
    ∷ in_order_lem (only (seat 3 (pos 2048) (negsuc 511) (pos 3072) 3 0 4 5) 4) 14
    ∷ in_order_lem (only (seat 1 (pos 262144) (pos 0) (pos 0) 64 64 1024 1) 1) 14
    ∷ in_order_lem (only (seat 1 (pos 0) (pos 0) (pos 0) 1 1 1 1024) 1) 14
    ∷ in_order_lem (only (seat 1 (pos 0) (pos 0) (pos 0) 1 1 32 32) 1) 14
    ∷ not_in_order_lem (only (seat 3 (pos 0) (pos 0) (pos 0) 0 0 1 1) 3)
    ∷ not_in_order_lem (only (seat 3 (pos 0) (pos 0) (pos 0) 65 65 1 1) 3)
    ∷ not_in_order_lem (only (seat 3 (pos 0) (pos 0) (pos 0) 1 1 0 1) 3)
    ∷ not_in_order_lem (only (seat 3 (pos 0) (pos 0) (pos 0) 1 1 1 0) 3)
    ∷ not_in_order_lem (only (seat 3 (pos 0) (pos 0) (pos 0) 1 1 41 25) 3)
    ∷ not_in_order_lem (only (seat 3 (pos 0) (pos 0) (pos 0) 1 1 1024 1024) 3)
    -- "has a kernel": cases g, d and e
    ∷ not_in_order_lem (only (seat 3 (pos 1000) (pos 1001) (pos 1000) 1 1 1 1) 3)
    ∷ not_in_order_lem (only (seat 3 (pos 4097) (pos 0) (pos 4096) 1 1 1 1) 3)
    ∷ in_order_lem (only (seat 3 (pos 4097) (pos 0) (pos 4096) 2 1 1 1) 3) 14
    -- "a number from 1 to the last given shared with no other seat, steps left at most its steps"
    ∷ not_in_order_lem (only (one_pixel 4) 3)
    ∷ not_in_order_lem (only (seat 3 (pos 0) (pos 0) (pos 0) 1 2 1 1) 3)
    ∷ not_in_order_lem
    (keeps
    (none ∷ one_pixel 3 ∷ none ∷ none ∷ none ∷ none ∷ none ∷ one_pixel 3 ∷ [])
    3 7 7)
    ∷ in_order_lem
    (keeps
    (none ∷ one_pixel 3 ∷ none ∷ none ∷ none ∷ none ∷ none ∷ one_pixel 2 ∷ [])
    3 7 7)
    12
    -- "each empty seat is all zero"
    ∷ not_in_order_lem (only (seat 0 (negsuc 0) (pos 0) (pos 0) 0 0 0 0) 3)
    ∷ not_in_order_lem (only (seat 0 (pos 0) (pos 1) (pos 0) 0 0 0 0) 3)
    ∷ not_in_order_lem (only (seat 0 (pos 0) (pos 0) (pos 1) 0 0 0 0) 3)
    ∷ not_in_order_lem (only (seat 0 (pos 0) (pos 0) (pos 0) 1 0 0 0) 3)
    ∷ not_in_order_lem (only (seat 0 (pos 0) (pos 0) (pos 0) 0 1 0 0) 3)
    ∷ not_in_order_lem (only (seat 0 (pos 0) (pos 0) (pos 0) 0 0 1 0) 3)
    ∷ not_in_order_lem (only (seat 0 (pos 0) (pos 0) (pos 0) 0 0 0 1) 3)
    -- a number alone makes a filled seat, and nothing else does: no job without one, even where no other seat is empty
    ∷ not_in_order_lem (only (seat 3 (pos 0) (pos 0) (pos 0) 0 0 0 0) 3)
    ∷ in_order_lem (keeps (map one_pixel (1 ∷ 2 ∷ 3 ∷ 4 ∷ 5 ∷ 6 ∷ 7 ∷ 8 ∷ [])) 8 0 7) 0
    ∷ not_in_order_lem (keeps (map one_pixel (0 ∷ 2 ∷ 3 ∷ 4 ∷ 5 ∷ 6 ∷ 7 ∷ 8 ∷ [])) 8 0 7)
    -- ".. and both named seats are 0 to 7"
    ∷ not_in_order_lem (keeps (none ∷ none ∷ none ∷ none ∷ none ∷ none ∷ none ∷ none ∷ []) 3 8 0)
    ∷ not_in_order_lem (keeps (none ∷ none ∷ none ∷ none ∷ none ∷ none ∷ none ∷ none ∷ []) 3 0 8)
    ∷ in_order_lem (keeps (none ∷ none ∷ none ∷ none ∷ none ∷ none ∷ none ∷ none ∷ []) 3 0 0) 16
    ∷ []

-- ---- by rules that no document has, with their numbers in the place of 8 and 2
-- three slots of one buffer each: the opening names slot 2, slot i has buffer i, a tick goes from its one buffer to the same, a full
-- service holds three jobs, and a record has named slots 0 to 2
abbrev pub three_slots : Worked
three_slots =
    record {
      from = opened (record { slot_count = 3; buffers_per_slot = 1; holds_choice = false }) sevens;
      lines =
          stands (keeps (none ∷ none ∷ none ∷ []) 0 2 2)
          ∷ free 3
          ∷ submits along 2 2 1 (0 ∷ 16 ∷ []) 1
          ∷ submits still 1 1 1 (5 ∷ []) 2
          ∷ free 1
          ∷ submits still 1 1 1 (8 ∷ []) 3
          ∷ submit_refused still 1 1 1 (9 ∷ []) 12
          ∷ free 0
          ∷ stored 0 (0 ∷ 16 ∷ 7 ∷ [])
          ∷ stored 1023 (7 ∷ 5 ∷ 7 ∷ [])
          ∷ stored 2047 (7 ∷ 8 ∷ 7 ∷ [])
          ∷ ticks 1
          ∷ stored 0 (4 ∷ 12 ∷ 7 ∷ [])
          ∷ ticks 2
          ∷ ticks 3
          ∷ ticks 1
          ∷ idles
          ∷ stored 0 (6 ∷ 10 ∷ 7 ∷ [])
          ∷ stored 1023 (7 ∷ 5 ∷ 7 ∷ [])
          ∷ collects 1 (9 ∷ 9 ∷ []) (6 ∷ 10 ∷ [])
          ∷ stands
          (keeps
          (none ∷ seat 2 (pos 0) (pos 0) (pos 0) 1 0 1 1 ∷ seat 3 (pos 0) (pos 0) (pos 0) 1 0 1 1 ∷ [])
          3 2 0)
          ∷ submits still 1 1 1 (1 ∷ []) 4
          ∷ stored 0 (1 ∷ 10 ∷ 7 ∷ [])
          ∷ [];
    }

-- two slots of three buffers each: slot 1 has buffers 3, 4 and 5, and its steps go round them. `along` over four steps: M is 16384, 8192
-- on either side of 65536, an eighth; the pixels 0 16 become 2 14, then 3.5 12.5, so 4 13, then 5.125 11.875, then 5.875 11.125
abbrev pub two_slots : Worked
two_slots =
    record {
      from = opened (record { slot_count = 2; buffers_per_slot = 3; holds_choice = false }) sevens;
      lines =
          free 6
          ∷ submits still 1 1 1 (5 ∷ []) 1
          ∷ submits along 4 2 1 (0 ∷ 16 ∷ []) 2
          ∷ free 0
          ∷ submit_refused still 1 1 1 (9 ∷ []) 12
          ∷ stored 3071 (7 ∷ 0 ∷ 16 ∷ 7 ∷ [])
          ∷ ticks 1
          ∷ stored 1023 (7 ∷ 5 ∷ 7 ∷ [])
          ∷ ticks 2
          ∷ stored 4095 (7 ∷ 2 ∷ 14 ∷ 7 ∷ [])
          ∷ ticks 2
          ∷ stored 5119 (7 ∷ 4 ∷ 13 ∷ 7 ∷ [])
          ∷ ticks 2
          ∷ stored 3071 (7 ∷ 5 ∷ 12 ∷ 7 ∷ [])
          ∷ ticks 2
          ∷ collects 2 (9 ∷ 9 ∷ []) (6 ∷ 11 ∷ [])
          ∷ free 3
          ∷ stands (keeps (seat 1 (pos 0) (pos 0) (pos 0) 1 0 1 1 ∷ none ∷ []) 2 1 1)
          ∷ [];
    }

-- ---- S-3: the rules with a choice. Case a's shape, and the same over two steps; a picture with 1600 in its middle
abbrev pub case_a : Shape
case_a = Matrix (pos 2048) (pos 0) (pos 2048)

abbrev pub twice : Shape
twice = Matrix (pos 4096) (pos 0) (pos 4096)

abbrev pub spot : List ℕ
spot = 0 ∷ 0 ∷ 0 ∷ 0 ∷ 1600 ∷ 0 ∷ 0 ∷ 0 ∷ 0 ∷ []

-- "Case a then has pixels 100 in the corners, 200 at the sides, 400 in the centre"; by the smallest f its weights are a quarter at each
-- side and 0 elsewhere
abbrev pub binomial_spot : List ℕ
binomial_spot = 100 ∷ 200 ∷ 100 ∷ 200 ∷ 400 ∷ 200 ∷ 100 ∷ 200 ∷ 100 ∷ []

abbrev pub hollow_spot : List ℕ
hollow_spot = 0 ∷ 400 ∷ 0 ∷ 400 ∷ 0 ∷ 400 ∷ 0 ∷ 400 ∷ 0 ∷ []

-- one step more of a quarter at each side: a corner has two sides of 400 and itself twice beside it, a side itself and three zeros, and
-- the middle four sides
abbrev pub hollow_twice : List ℕ
hollow_twice = 200 ∷ 100 ∷ 200 ∷ 100 ∷ 400 ∷ 100 ∷ 200 ∷ 100 ∷ 200 ∷ []

abbrev pub nines : List ℕ
nines = replicate 9 9

-- "submit takes the choice of S-2 too": f of the binomial choice is half of 3 × 2048 − 4096, the smallest is 0, and a submit that names none
-- has the first
abbrev pub choices : Worked
choices =
    record {
      from = opened choice_rules sevens;
      lines =
          stands (keeps (none ∷ none ∷ none ∷ none ∷ none ∷ none ∷ none ∷ none ∷ []) 0 7 7)
          ∷ chooses true
          ∷ free 16
          ∷ submits_by Binomial case_a 1 3 3 spot 1
          ∷ submits_by Smallest case_a 1 3 3 spot 2
          ∷ submits case_a 1 3 3 spot 3
          ∷ stands
          (keeps
          (seat_with 1024 (seat 1 (pos 2048) (pos 0) (pos 2048) 1 1 3 3)
          ∷ seat_with 0 (seat 2 (pos 2048) (pos 0) (pos 2048) 1 1 3 3)
          ∷ seat_with 1024 (seat 3 (pos 2048) (pos 0) (pos 2048) 1 1 3 3)
          ∷ none ∷ none ∷ none ∷ none ∷ none ∷ [])
          3 2 7)
          ∷ job 2 (record { rules = choice_rules; choice = Smallest; shape = case_a; steps = 1; width = 3; height = 3; picture = spot })
          -- there is nothing to change over: 2
          ∷ changes 2
          ∷ ticks 1
          ∷ ticks 2
          ∷ ticks 3
          ∷ idles
          ∷ collects 1 nines binomial_spot
          ∷ collects 2 nines hollow_spot
          ∷ collects 3 nines binomial_spot
          ∷ stands (keeps (none ∷ none ∷ none ∷ none ∷ none ∷ none ∷ none ∷ none ∷ []) 3 2 2)
          ∷ [];
    }

-- "from the opening on calls by the old rules, then the change-over, then calls by the new": job 1 is half done and job 2 waits when the
-- record changes over; |xy| of `leaning` is 1000, so its smallest f is
abbrev pub changed : Worked
changed =
    record {
      from = opened base_rules sevens;
      lines =
          chooses false
          -- what stands in the place of a choice is not read
          ∷ submits_by Binomial twice 2 3 3 spot 1
          ∷ submits leaning 2 1 1 (5 ∷ []) 2
          ∷ ticks 1
          ∷ stored 1024 hollow_spot
          ∷ free 12
          -- job 1 has a step left, and 8 ticks may follow, with the change-over anywhere among them
          ∷ waits 1 (changing ∷ replicate 8 (calling tick)) 8 true false
          ∷ waits 1 (calling tick ∷ calling tick ∷ changing ∷ replicate 6 (calling tick)) 8 true false
          ∷ waits 1 (calling tick ∷ changing ∷ calling (withdraw 1) ∷ replicate 7 (calling tick)) 8 false true
          ∷ stands
          (keeps
          (seat 1 (pos 4096) (pos 0) (pos 4096) 2 1 3 3 ∷ seat 2 (pos 1000) (pos 1000) (pos 1000) 2 2 1 1 ∷ none ∷ none ∷ none ∷ none ∷ none ∷ none ∷ [])
          2 1 0)
          ∷ changes 0
          ∷ chooses true
          -- "every other field, the last number and the named seats" as they were, and f
          ∷ stands
          (keeps
          (seat_with 0 (seat 1 (pos 4096) (pos 0) (pos 4096) 2 1 3 3)
          ∷ seat_with 1000 (seat 2 (pos 1000) (pos 1000) (pos 1000) 2 2 1 1)
          ∷ none ∷ none ∷ none ∷ none ∷ none ∷ none ∷ [])
          2 1 0)
          ∷ stored 1024 hollow_spot
          ∷ free 12
          ∷ word 1 true 1 1 false
          ∷ word 2 true 0 2 false
          ∷ given (2 ∷ 1 ∷ []) 2
          ∷ accepted true
          ∷ job 1 (record { rules = base_rules; choice = Smallest; shape = twice; steps = 2; width = 3; height = 3; picture = spot })
          ∷ lone (record { rules = base_rules; choice = Smallest; shape = twice; steps = 2; width = 3; height = 3; picture = spot })
          (map calling (submit Smallest twice 2 3 3 spot ∷ tick ∷ tick ∷ []))
          -- once is enough: 2, and nothing changes
          ∷ changes 2
          -- the turn goes on after seat 0, and the half-done job ends with the pixels that it would have had
          ∷ ticks 2
          ∷ ticks 1
          ∷ collects 1 nines hollow_twice
          ∷ word 1 false 2 0 true
          ∷ free 14
          ∷ [];
    }

-- a new job beside one from before: each has its own choice
abbrev pub after_change : Worked
after_change =
    record {
      from = opened base_rules sevens;
      lines =
          submits twice 2 3 3 spot 1
          ∷ changes 0
          ∷ submits_by Binomial twice 2 3 3 spot 2
          ∷ job 2 (record { rules = choice_rules; choice = Binomial; shape = twice; steps = 2; width = 3; height = 3; picture = spot })
          ∷ ticks 1
          ∷ ticks 2
          ∷ stored 1024 hollow_spot
          ∷ stored 3072 binomial_spot
          ∷ [];
    }

-- "one not in order by the old rule gets 2", and is left as it was; 100 steps are left of 1
abbrev pub change_refused : Worked
change_refused =
    record {
      from = placed (keeps (seat 1 (pos 0) (pos 0) (pos 0) 1 100 1 1 ∷ none ∷ none ∷ none ∷ none ∷ none ∷ none ∷ none ∷ []) 1 0 7) sevens;
      lines =
          changes 2
          ∷ chooses false
          ∷ stands (keeps (seat 1 (pos 0) (pos 0) (pos 0) 1 100 1 1 ∷ none ∷ none ∷ none ∷ none ∷ none ∷ none ∷ none ∷ []) 1 0 7)
          ∷ [];
    }

-- ---- records by the new rules, of case e's shape over two steps, whose f lies from 1 to 4096, and of an empty seat
abbrev pub with_seat : Slot → Service
with_seat s = keeps (s ∷ none ∷ none ∷ none ∷ none ∷ none ∷ none ∷ none ∷ []) 1 0 7

abbrev pub case_e : ℕ → Service
case_e f = with_seat (seat_with f (seat 1 (pos 4097) (pos 0) (pos 4096) 2 2 1 1))

abbrev pub new_in_order : Service → ℕ → Worked
new_in_order r buffers = record { from = placed_by choice_rules r sevens; lines = free buffers ∷ withdraw_refused 0 7 ∷ stands r ∷ [] }

abbrev pub new_not_in_order : Service → Worked
new_not_in_order r =
    record {
      from = placed_by choice_rules r sevens;
      lines =
          submit_refused (Round nan) 1 1 1 (1 ∷ []) 2
          ∷ called tick 2 [] []
          ∷ collect_refused 0 (9 ∷ []) 2
          ∷ withdraw_refused 0 2
          ∷ counted 2 []
          ∷ stands r
          ∷ [];
    }

-- a tick goes by the seat's f, here by 512, which is that of neither choice: corners 512, sides 2 × 1536, centre 4 × 512 of 16384
abbrev pub own_free_number : Worked
own_free_number =
    record {
      from = placed_by choice_rules (with_seat (seat_with 512 (seat 1 (pos 2048) (pos 0) (pos 2048) 1 1 3 3))) (spot ++ replicate 16375 7);
      lines = ticks 1 ∷ stored 1024 (50 ∷ 300 ∷ 50 ∷ 300 ∷ 200 ∷ 300 ∷ 50 ∷ 300 ∷ 50 ∷ 7 ∷ []) ∷ [];
    }

-- ---- the tables
abbrev pub table : List Worked
table =
    day
    ∷ refusals
    ∷ floats
    ∷ three_slots
    ∷ two_slots
    ∷ wrong_store (replicate 16383 7)
    ∷ wrong_store (replicate 16385 7)
    ∷ used_up
    ++ records

-- that what is computed of each list is what its lines say
abbrev pub Holds : List Worked → Type 0
Holds lists = map (λ w. computed w.from w.lines) lists ≡ map (λ w. w.lines) lists

pub worked : Holds table
unfolding computed first_from count_of every_place all_zero filled_fine slot_fine in_order usable free_buffers submit_checks submit_of tick_of collect_checks collect_of withdraw_of free_count_of after since job_of held ticks_of numbers how_many withdrawn_in ticks_in all_accepted kernel_with kernel_exists free_fits pixel_at entries rows iterate step_of weighted_at in_range nearest_units variance_in_range cosine_in_range square_in_range direction_in_range variances_fine direction_fine covariance_xx covariance_xy covariance_yy add sub mul le
worked = refl

pub worked_choices : Holds (choices ∷ [])
unfolding computed first_from count_of every_place all_zero filled_fine slot_fine in_order usable free_buffers submit_checks submit_of tick_of collect_checks collect_of withdraw_of free_count_of after since job_of held ticks_of numbers how_many withdrawn_in ticks_in all_accepted kernel_with kernel_exists free_fits pixel_at entries rows iterate step_of weighted_at in_range nearest_units variance_in_range cosine_in_range square_in_range direction_in_range variances_fine direction_fine covariance_xx covariance_xy covariance_yy add sub mul le
worked_choices = refl

pub worked_change : Holds (changed ∷ [])
unfolding computed first_from count_of every_place all_zero filled_fine slot_fine in_order usable free_buffers submit_checks submit_of tick_of collect_checks collect_of withdraw_of free_count_of after since job_of held ticks_of numbers how_many withdrawn_in ticks_in all_accepted kernel_with kernel_exists free_fits pixel_at entries rows iterate step_of weighted_at in_range nearest_units variance_in_range cosine_in_range square_in_range direction_in_range variances_fine direction_fine covariance_xx covariance_xy covariance_yy add sub mul le
worked_change = refl

pub worked_after_change : Holds (after_change ∷ [])
unfolding computed first_from count_of every_place all_zero filled_fine slot_fine in_order usable free_buffers submit_checks submit_of tick_of collect_checks collect_of withdraw_of free_count_of after since job_of held ticks_of numbers how_many withdrawn_in ticks_in all_accepted kernel_with kernel_exists free_fits pixel_at entries rows iterate step_of weighted_at in_range nearest_units variance_in_range cosine_in_range square_in_range direction_in_range variances_fine direction_fine covariance_xx covariance_xy covariance_yy add sub mul le
worked_after_change = refl

pub worked_refused_change : Holds (change_refused ∷ [])
unfolding computed first_from count_of every_place all_zero filled_fine slot_fine in_order usable free_buffers submit_checks submit_of tick_of collect_checks collect_of withdraw_of free_count_of after since job_of held ticks_of numbers how_many withdrawn_in ticks_in all_accepted kernel_with kernel_exists free_fits pixel_at entries rows iterate step_of weighted_at in_range nearest_units variance_in_range cosine_in_range square_in_range direction_in_range variances_fine direction_fine covariance_xx covariance_xy covariance_yy add sub mul le
worked_refused_change = refl

pub worked_own_free_number : Holds (own_free_number ∷ [])
unfolding computed first_from count_of every_place all_zero filled_fine slot_fine in_order usable free_buffers submit_checks submit_of tick_of collect_checks collect_of withdraw_of free_count_of after since job_of held ticks_of numbers how_many withdrawn_in ticks_in all_accepted kernel_with kernel_exists free_fits pixel_at entries rows iterate step_of weighted_at in_range nearest_units variance_in_range cosine_in_range square_in_range direction_in_range variances_fine direction_fine covariance_xx covariance_xy covariance_yy add sub mul le
worked_own_free_number = refl

pub worked_bounds : Holds (map (λ f. new_in_order (case_e f) 14) (1 ∷ 100 ∷ 4096 ∷ []) ++ map (λ f. new_not_in_order (case_e f)) (0 ∷ 4097 ∷ []))
unfolding computed first_from count_of every_place all_zero filled_fine slot_fine in_order usable free_buffers submit_checks submit_of tick_of collect_checks collect_of withdraw_of free_count_of after since job_of held ticks_of numbers how_many withdrawn_in ticks_in all_accepted kernel_with kernel_exists free_fits pixel_at entries rows iterate step_of weighted_at in_range nearest_units variance_in_range cosine_in_range square_in_range direction_in_range variances_fine direction_fine covariance_xx covariance_xy covariance_yy add sub mul le
worked_bounds = refl

pub worked_stale_free_number : Holds (new_in_order (with_seat none) 16 ∷ new_not_in_order (with_seat (seat_with 1 none)) ∷ [])
unfolding computed first_from count_of every_place all_zero filled_fine slot_fine in_order usable free_buffers submit_checks submit_of tick_of collect_checks collect_of withdraw_of free_count_of after since job_of held ticks_of numbers how_many withdrawn_in ticks_in all_accepted kernel_with kernel_exists free_fits pixel_at entries rows iterate step_of weighted_at in_range nearest_units variance_in_range cosine_in_range square_in_range direction_in_range variances_fine direction_fine covariance_xx covariance_xy covariance_yy add sub mul le
worked_stale_free_number = refl
