-- What may cross threads.
use denote.RattleType.{RattleType}
use denote.Struct.Struct.{Struct}
use denote.Struct.Declared as S
use denote.Struct.Field.{rows}
use denote.Enum.Enum.{Enum}
use denote.Enum.Declared as E
use denote.Param.Send.{IsSend, IsSync, AllSend, AllSync, EachSend, EachSync, struct_send, struct_sync, enum_send, enum_sync, recorded_send, recorded_sync, view_send, sendable}
use Rattle.std.proofs.Crossing.{crosses}
use Rattle.std.proofs.MapsCrossing.{crosses as maps}
use Rattle.wm_base.specs.contracts.refusal.Refusal as Refusal
use Rattle.wm_base.specs.contracts.job.Asked as Asked
use Rattle.wm_desc.specs.contracts.objects.Objects as Objects
use Rattle.wm_law.specs.contracts.call.Call as Call
use Rattle.wm_law.specs.contracts.call.Reply as Reply
use Rattle.wm_law.specs.contracts.call.Entry as Entry
use Rattle.wm_law.specs.contracts.command.Command as Command
use Rattle.wm_law.specs.contracts.job.Job as Job
use Rattle.wm_ordered.specs.contracts.waiting.WaitingJobs as WaitingJobs
use Rattle.wm_pick.specs.contracts.tally.Tally as Tally
use Rattle.wm_indexes.specs.contracts.names.JobNames as JobNames
use Rattle.wm_indexes.specs.contracts.active.ActiveJobs as ActiveJobs
use Rattle.wm_indexes.specs.contracts.prestart.PrestartJobs as PrestartJobs
use Rattle.wm_making.specs.contracts.saved.Saved as Saved
use Rattle.wm_jobs.specs.contracts.table.JobTable as JobTable
use Rattle.wm_core.specs.contracts.mark.Mark as Mark
use Rattle.wm_core.specs.contracts.machine.Machine as Machine
use Rattle.wm_core.specs.contracts.sound.Core as Core
use Rattle.wm_floor.specs.contracts.stored.StoredCore as StoredCore
use Rattle.wm_floor.specs.contracts.ledger.Ledger as Ledger
use Rattle.wm_floor.specs.contracts.floor.Floor as Floor
use Rattle.wm_turn.specs.contracts.pass.Pass as Pass
use Rattle.wm_turn.specs.contracts.turnstile.Turnstile as Turnstile
use Rattle.wm_jobs.specs.contracts.table.JobTable.TheInside as table
use Rattle.wm_core.specs.contracts.machine.Machine.TheInside as machine
use Rattle.wm_traits.specs.declared.keeper.Keeper as keeper
use Rattle.atomic_table.proofs.shared.Seat.TheSendSync as seat
use Rattle.atomic_table.proofs.shared.Shared.TheSendSync as words
use Rattle.atomic_table.proofs.send_lease.SendLease.TheSendSync as lease
use Rattle.wm_turn.specs.declared.standing.Standing as standing

pub struct_may_send : (T : S.Declared) → AllSend (rows T.parts) → IsSend (S.row T)
struct_may_send T s = recorded_send (Struct (S.shape T)) T.D T.to T.to_one (struct_send (S.shape T) s)

pub struct_may_sync : (T : S.Declared) → AllSync (rows T.parts) → IsSync (S.row T)
struct_may_sync T s = recorded_sync (Struct (S.shape T)) T.D T.to T.to_one (struct_sync (S.shape T) s)

pub enum_may_send : (T : E.Declared) → EachSend (E.rowss T.parts) → IsSend (E.row T)
enum_may_send T s = recorded_send (Enum (E.shape T)) T.D T.to T.to_one (enum_send (E.shape T) s)

pub enum_may_sync : (T : E.Declared) → EachSync (E.rowss T.parts) → IsSync (E.row T)
enum_may_sync T s = recorded_sync (Enum (E.shape T)) T.D T.to T.to_one (enum_sync (E.shape T) s)

pub ruleset passing = (crosses, maps, sendable)

module _ (T : E.Declared) where
  pub enum_field_send : EachSend (E.rowss T.parts) → IsSend (E.field T).row
  enum_field_send s = enum_send (E.shape T) s

  pub enum_field_sync : EachSync (E.rowss T.parts) → IsSync (E.field T).row
  enum_field_sync s = enum_sync (E.shape T) s

pub Refusal-send : IsSend (Refusal.the_field).row
Refusal-send = enum_field_send Refusal.the_type (search passing depth 400 fits 100000)

pub Refusal-sync : IsSync (Refusal.the_field).row
Refusal-sync = enum_field_sync Refusal.the_type (search passing depth 400 fits 100000)

pub Asked-send : IsSend Asked.the_row
Asked-send = search passing depth 400 fits 100000

pub Asked-sync : IsSync Asked.the_row
Asked-sync = search passing depth 400 fits 100000

pub Command-send : IsSend Command.the_row
Command-send = enum_may_send Command.the_type ((search passing depth 400 fits 100000, tt), ((search passing depth 400 fits 100000, tt), ((search passing depth 400 fits 100000, tt), ((search passing depth 400 fits 100000, tt), ((search passing depth 400 fits 100000, tt), ((search passing depth 400 fits 100000, tt), ((search passing depth 400 fits 100000, tt), ((search passing depth 400 fits 100000, tt), ((search passing depth 400 fits 100000, tt), ((search passing depth 400 fits 100000, tt), ((search passing depth 400 fits 100000, tt), ((search passing depth 400 fits 100000, tt), ((search passing depth 400 fits 100000, tt), ((search passing depth 400 fits 100000, tt), ((search passing depth 400 fits 100000, tt), ((search passing depth 400 fits 100000, tt), ((search passing depth 400 fits 100000, tt), ((search passing depth 400 fits 100000, tt), ((search passing depth 400 fits 100000, tt), ((search passing depth 400 fits 100000, tt), ((search passing depth 400 fits 100000, tt), ((search passing depth 400 fits 100000, tt), ((search passing depth 400 fits 100000, tt), ((search passing depth 400 fits 100000, tt), ((search passing depth 400 fits 100000, tt), ((search passing depth 400 fits 100000, tt), ((search passing depth 400 fits 100000, tt), ((search passing depth 400 fits 100000, tt), tt))))))))))))))))))))))))))))

pub Command-sync : IsSync Command.the_row
Command-sync = enum_may_sync Command.the_type ((search passing depth 400 fits 100000, tt), ((search passing depth 400 fits 100000, tt), ((search passing depth 400 fits 100000, tt), ((search passing depth 400 fits 100000, tt), ((search passing depth 400 fits 100000, tt), ((search passing depth 400 fits 100000, tt), ((search passing depth 400 fits 100000, tt), ((search passing depth 400 fits 100000, tt), ((search passing depth 400 fits 100000, tt), ((search passing depth 400 fits 100000, tt), ((search passing depth 400 fits 100000, tt), ((search passing depth 400 fits 100000, tt), ((search passing depth 400 fits 100000, tt), ((search passing depth 400 fits 100000, tt), ((search passing depth 400 fits 100000, tt), ((search passing depth 400 fits 100000, tt), ((search passing depth 400 fits 100000, tt), ((search passing depth 400 fits 100000, tt), ((search passing depth 400 fits 100000, tt), ((search passing depth 400 fits 100000, tt), ((search passing depth 400 fits 100000, tt), ((search passing depth 400 fits 100000, tt), ((search passing depth 400 fits 100000, tt), ((search passing depth 400 fits 100000, tt), ((search passing depth 400 fits 100000, tt), ((search passing depth 400 fits 100000, tt), ((search passing depth 400 fits 100000, tt), ((search passing depth 400 fits 100000, tt), tt))))))))))))))))))))))))))))

pub Call-send : IsSend (Call.the_field).row
Call-send = enum_field_send Call.the_type (search (Command-send, passing) depth 400 fits 100000)

pub Call-sync : IsSync (Call.the_field).row
Call-sync = enum_field_sync Call.the_type (search (Command-sync, passing) depth 400 fits 100000)

pub Reply-send : IsSend (Reply.the_field).row
Reply-send = enum_field_send Reply.the_type (search (Refusal-send, Asked-send, passing) depth 400 fits 100000)

pub Reply-sync : IsSync (Reply.the_field).row
Reply-sync = enum_field_sync Reply.the_type (search (Refusal-sync, Asked-sync, passing) depth 400 fits 100000)

pub Entry-send : IsSend Entry.the_row
Entry-send = search (Call-send, Reply-send, passing) depth 400 fits 100000

pub Entry-sync : IsSync Entry.the_row
Entry-sync = search (Call-sync, Reply-sync, passing) depth 400 fits 100000

pub Objects-send : IsSend (Objects.the_field).row
Objects-send = struct_send (S.shape Objects.the_type) (search passing depth 400 fits 100000, (search passing depth 400 fits 100000, (search passing depth 400 fits 100000, (search passing depth 400 fits 100000, (search passing depth 400 fits 100000, tt)))))

pub Job-send : IsSend Job.the_row
Job-send = search passing depth 400 fits 100000

pub WaitingJobs-send : IsSend WaitingJobs.the_row
WaitingJobs-send = search passing depth 400 fits 100000

pub Tally-send : IsSend Tally.the_row
Tally-send = search passing depth 400 fits 100000

pub JobNames-send : IsSend JobNames.the_row
JobNames-send = search passing depth 400 fits 100000

pub ActiveJobs-send : IsSend ActiveJobs.the_row
ActiveJobs-send = search passing depth 400 fits 100000

pub PrestartJobs-send : IsSend PrestartJobs.the_row
PrestartJobs-send = search passing depth 400 fits 100000

pub Saved-send : IsSend (Saved.the_field).row
Saved-send = enum_field_send Saved.the_type (search passing depth 400 fits 100000)

module _ (X O E : RattleType) (g : standing.Ghosts X.Denot O.Denot E.Denot) where
  pub Pass-send : IsSend X → IsSend (Pass.the_row X O E g)
  Pass-send s = search (seat.the_send, passing) depth 400 fits 100000

  pub Turnstile-sync : IsSend X → IsSync (Turnstile.the_row X O E g)
  Turnstile-sync s = search (words.the_sync, lease.the_sync, passing) depth 400 fits 100000

pub JobTable-send : IsSend JobTable.the_row
JobTable-send = view_send _ _ _ _ _ (struct_may_send table.the_type (search (Job-send, passing) depth 400 fits 100000, (search (WaitingJobs-send, passing) depth 400 fits 100000, (search (Tally-send, passing) depth 400 fits 100000, (search passing depth 400 fits 100000, (search (JobNames-send, passing) depth 400 fits 100000, (search (ActiveJobs-send, passing) depth 400 fits 100000, (search (PrestartJobs-send, passing) depth 400 fits 100000, (search passing depth 400 fits 100000, (search passing depth 400 fits 100000, (search passing depth 400 fits 100000, (search passing depth 400 fits 100000, (search passing depth 400 fits 100000, (search passing depth 400 fits 100000, (search passing depth 400 fits 100000, (search passing depth 400 fits 100000, tt))))))))))))))))

pub Mark-send : IsSend (Mark.the_field).row
Mark-send = struct_send (S.shape Mark.the_type) (search (Saved-send, passing) depth 400 fits 100000, (search passing depth 400 fits 100000, (search passing depth 400 fits 100000, (search passing depth 400 fits 100000, (search passing depth 400 fits 100000, (search passing depth 400 fits 100000, (search passing depth 400 fits 100000, tt)))))))

pub Machine-send : IsSend Machine.the_row
Machine-send = view_send _ _ _ _ _ (struct_may_send machine.the_type (search (Objects-send, passing) depth 400 fits 100000, (search passing depth 400 fits 100000, (search passing depth 400 fits 100000, (search passing depth 400 fits 100000, (search passing depth 400 fits 100000, (search passing depth 400 fits 100000, (search passing depth 400 fits 100000, (search passing depth 400 fits 100000, (search (JobTable-send, passing) depth 400 fits 100000, (search (Mark-send, passing) depth 400 fits 100000, tt)))))))))))

pub Core-send : IsSend Core.the_row
Core-send = search (Machine-send, passing) depth 400 fits 100000

module _ (K : RattleType) (g : keeper.Ghosts K.Denot) where
  pub StoredCore-send : IsSend K → IsSend (StoredCore.the_row K g)
  StoredCore-send s = search (Core-send, passing) depth 400 fits 100000

  pub Ledger-send : IsSend K → IsSend (Ledger.the_row K g)
  Ledger-send s = search (StoredCore-send, Entry-send, Entry-sync, passing) depth 400 fits 100000

  pub Floor-sync : IsSend K → IsSync (Floor.the_row K g)
  Floor-sync s = search (Turnstile-sync, Ledger-send, passing) depth 400 fits 100000

pub ruleset floors = (Pass-send, Ledger-send, Floor-sync)
