-- Which values descriptions and entries may have.
use Rattle.std.specs.Prelude.{ℕ, ◌+◌, Bool, true, nat_le, ◌&&◌, codes, List, length, Option, Some, None, nat_eq}
use Rattle.std.specs.List.{list_all, starts_with}
use Rattle.wm_base.specs.declared.job.Class.{Class}
use Rattle.wm_base.specs.declared.limit.Limit.{Limit}
use Rattle.wm_base.specs.declared.limit.Limit.TheVariants.{NoMax, Most}
use Rattle.wm_desc.specs.declared.description.Jobd.{Jobd}
use Rattle.wm_desc.specs.declared.entry.Cmp.{Cmp}
use Rattle.wm_desc.specs.declared.entry.Cmp.TheVariants.{Any, Val}
use Rattle.wm_desc.specs.declared.entry.QueueEntry.{QueueEntry}
use Rattle.wm_desc.specs.declared.entry.RouteEntry.{RouteEntry}
use Rattle.wm_desc.specs.declared.entry.PreEntry.{PreEntry}

-- a number from low to high
abbrev pub within : ℕ → ℕ → ℕ → Bool
within low high n = nat_le low n && nat_le n high

-- *NOMAX, or a number from low to high
abbrev pub limit_within : ℕ → ℕ → Limit → Bool
limit_within low high NoMax = true
limit_within low high (Most n) = within low high n

-- a run priority of 1 to 99, a time slice of 1 to 9999999 milliseconds, a default wait of 1 to 9999999 seconds or *NOMAX
abbrev pub class_in_range : Class → Bool
class_in_range cls = within 1 99 cls.runpty && within 1 9999999 cls.timeslice && limit_within 1 9999999 cls.dftwait

-- 1 to 255 bytes, the first of which is a slash
abbrev pub path_in_range : List ℕ → Bool
path_in_range path = within 1 255 (length path) && starts_with nat_eq path (codes "/")

-- a request of at most 1,000 characters, or none
abbrev pub request_in_range : Option (List ℕ) → Bool
request_in_range None = true
request_in_range (Some request) = nat_le (length request) 1000

-- routing data of 1 to 80 characters, and such a request
abbrev pub jobd_in_range : Jobd → Bool
jobd_in_range jobd = within 1 80 (length jobd.rtgdta) && request_in_range jobd.rqsdta

-- 0 to 1000 or *NOMAX
abbrev pub maxjobs_in_range : Limit → Bool
maxjobs_in_range maxjobs = limit_within 0 1000 maxjobs

-- a sequence number of 1 to 9999, MAXACT of 0 to 1000 or *NOMAX, and each MAXPTY of 0 to 99 or *NOMAX
abbrev pub queue_in_range : QueueEntry → Bool
queue_in_range entry = within 1 9999 entry.seq && limit_within 0 1000 entry.maxact && list_all (limit_within 0 99) entry.maxpty

-- *ANY, or a value of 1 to 80 characters that ends at the 80th place at the latest
abbrev pub cmp_in_range : Cmp → Bool
cmp_in_range Any = true
cmp_in_range (Val value start) = within 1 80 (length value) && within 1 80 start && nat_le (start + length value) 81

-- a sequence number of 1 to 9999, such a compare value, MAXACT of 0 to 1000 or *NOMAX, and POOLID of 1 to 10
abbrev pub route_in_range : RouteEntry → Bool
route_in_range entry = within 1 9999 entry.seq && cmp_in_range entry.cmp && limit_within 0 1000 entry.maxact && within 1 10 entry.poolid

-- the values of a prestart entry, each by itself
abbrev pub pre_in_range : PreEntry → Bool
pre_in_range entry =
    within 1 9999 entry.inljobs && within 1 9999 entry.threshold && nat_le entry.adljobs 999
    && limit_within 1 9999 entry.maxjobs && limit_within 1 1000 entry.maxuse && within 1 10 entry.poolid
