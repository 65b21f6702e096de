-- A keeper of SQLite may cross threads, since each part of its connection may.
use denote.RattleType.{RattleType}
use denote.Struct.Struct.{Struct}
use denote.Struct.Declared as S
use denote.Struct.Field.{rows}
use denote.Enum.Enum.{Enum}
use denote.Enum.Declared as E
use denote.Param.Send.{IsSend, AllSend, EachSend, struct_send, enum_send, recorded_send, view_send, sendable}
use Rattle.std.proofs.Crossing.{crosses, Vec-send}
use Rattle.std.proofs.MapsCrossing.{crosses as maps}
use Rattle.sqlite_items.specs.contracts.items.Items as Items
use Rattle.sqlite_items.specs.contracts.items.Items.TheInside as ItemsInside
use Rattle.sqlite_value.specs.contracts.value.Bytes as Bytes
use Rattle.sqlite_value.specs.contracts.value.Bytes.TheInside as BytesInside
use Rattle.sqlite_value.specs.contracts.value.Value as Value
use Rattle.sqlite_value.specs.contracts.row.Row as Row
use Rattle.sqlite_value.specs.contracts.row.Row.TheInside as RowInside
use Rattle.sqlite_schema.specs.contracts.code.Op as Op
use Rattle.sqlite_schema.specs.contracts.code.Terms as Terms
use Rattle.sqlite_schema.specs.contracts.code.Terms.TheInside as TermsInside
use Rattle.sqlite_schema.specs.contracts.schema.Column as Column
use Rattle.sqlite_schema.specs.contracts.schema.Reference as Reference
use Rattle.sqlite_schema.specs.contracts.schema.Stamps as Stamps
use Rattle.sqlite_schema.specs.contracts.schema.Table as Table
use Rattle.sqlite_schema.specs.contracts.schema.Index as Index
use Rattle.sqlite_schema.specs.contracts.schema.View as View
use Rattle.sqlite_schema.specs.contracts.schema.Schema as Schema
use Rattle.sqlite_schema.specs.contracts.plan.Scan as Scan
use Rattle.sqlite_schema.specs.contracts.plan.Stage as Stage
use Rattle.sqlite_schema.specs.contracts.plan.Groups as Groups
use Rattle.sqlite_schema.specs.contracts.plan.Plan as Plan
use Rattle.sqlite_schema.specs.contracts.plan.Plan.TheInside as PlanInside
use Rattle.sqlite_schema.specs.contracts.program.Table as Made
use Rattle.sqlite_schema.specs.contracts.program.Program as Program
use Rattle.sqlite_schema.specs.contracts.command.Source as Source
use Rattle.sqlite_schema.specs.contracts.command.Upsert as Upsert
use Rattle.sqlite_schema.specs.contracts.command.Command as Command
use Rattle.sqlite_schema.specs.contracts.command.Returning as Returning
use Rattle.sqlite_resolve.specs.contracts.compiled.Compiled as Compiled
use Rattle.sqlite.specs.contracts.cache.Entry as Entry
use Rattle.sqlite.specs.contracts.history.Mark as Mark
use Rattle.sqlite.specs.contracts.history.History as History
use Rattle.sqlite_exec.specs.contracts.rows.Rows as RunRows
use Rattle.sqlite_exec.specs.contracts.rows.Rows.TheInside as RunRowsInside
use Rattle.sqlite_exec.specs.contracts.page.Page as Page
use Rattle.sqlite_exec.specs.contracts.page.Page.TheInside as PageInside
use Rattle.sqlite_exec.specs.contracts.mark.Way as Way
use Rattle.sqlite_exec.specs.contracts.mark.Mark as ExecMark
use Rattle.sqlite_exec.specs.contracts.marks.Marks as Marks
use Rattle.sqlite_exec.specs.contracts.marks.Marks.TheInside as MarksInside
use Rattle.sqlite_exec.specs.contracts.seen.Seen as Seen
use Rattle.sqlite_exec.specs.contracts.stream.Rounds as Rounds
use Rattle.sqlite_exec.specs.contracts.stream.Stream as Stream
use Rattle.sqlite_exec.specs.contracts.slots.Slots as Slots
use Rattle.sqlite_exec.specs.contracts.slots.Slots.TheInside as SlotsInside
use Rattle.sqlite_exec.specs.contracts.work.Workspace as Workspace
use Rattle.sqlite.specs.contracts.rows.Row as ReadRow
use Rattle.sqlite.specs.contracts.rows.Row.TheInside as ReadRowInside
use Rattle.sqlite.specs.contracts.run.reading.Reading as Reading
use Rattle.sqlite_trees.specs.contracts.memory.tree.Tree as Tree
use Rattle.sqlite_trees.specs.contracts.memory.tree.Logged as Logged
use Rattle.sqlite_trees.specs.contracts.memory.MemStore as MemStore
use Rattle.sqlite_store.specs.contracts.catalog.Wanted as Wanted
use Rattle.sqlite_store.specs.contracts.saved.Listed as Listed
use Rattle.sqlite_store.specs.contracts.saved.Saved as Saved
use Rattle.sqlite_btree.specs.contracts.batch.Batch as BtreeBatch
use Rattle.sqlite_store.specs.contracts.cursor.Cursor as Cursor
use Rattle.sqlite_btree.specs.contracts.scratch.Scratch as Scratch
use Rattle.sqlite_wal.specs.contracts.index.PageIndex as PageIndex
use Rattle.sqlite_wal.specs.contracts.index.PageIndex.TheInside as PageIndexInside
use Rattle.sqlite_wal.specs.contracts.batch.Batch as Batch
use Rattle.sqlite_pager.specs.contracts.layers.Layer as Layer
use Rattle.sqlite_pager.specs.contracts.cache.Cache as Cache
use Rattle.sqlite_pool.specs.contracts.free_set.FreeSet as FreeSet
use Rattle.sqlite_std_file.specs.contracts.host.Host as Host
use Rattle.sqlite_wal.specs.contracts.log.Log as Log
use Rattle.sqlite_pager.specs.contracts.pager.Pager as Pager
use Rattle.sqlite_pool.specs.contracts.backing.Backing as Backing
use Rattle.sqlite_pool.specs.contracts.pool.Pool as Pool
use Rattle.sqlite_store.specs.contracts.store.FileStore as FileStore
use Rattle.sqlite_disk.specs.contracts.modelled.Modelled as Modelled
use Rattle.sqlite.specs.contracts.connection.Connection as Connection
use Rattle.sqlite.specs.contracts.connection.Connection.TheInside as ConnectionInside
use Rattle.wm_sqlkeep.specs.contracts.keeper.SqlKeeper as SqlKeeper
use Rattle.sqlite_disk.specs.declared.Disk as disk
use Rattle.sqlite_disk.specs.declared.calls.Calls as calls
use Rattle.sqlite_disk.specs.declared.start.Start as start
use Rattle.sqlite_trees.specs.declared.store.Store as store
use Rattle.wm_sqlkeep.specs.contracts.opened.OpenedKeeper as OpenedKeeper

pub ruleset passing = (crosses, maps, sendable)

whole_struct : (T : S.Declared) → IsSend (Struct (S.shape T)) → IsSend (S.row T)
whole_struct T s = recorded_send (Struct (S.shape T)) T.D T.to T.to_one s

struct_may_send : (T : S.Declared) → AllSend (rows T.parts) → IsSend (S.row T)
struct_may_send T s = whole_struct T (struct_send (S.shape T) s)

whole_enum : (T : E.Declared) → IsSend (Enum (E.shape T)) → IsSend (E.row T)
whole_enum T s = recorded_send (Enum (E.shape T)) T.D T.to T.to_one s

enum_may_send : (T : E.Declared) → EachSend (E.rowss T.parts) → IsSend (E.row T)
enum_may_send T s = whole_enum T (enum_send (E.shape T) s)

Items-send : (T : RattleType) → IsSend T → IsSend (Items.the_row T)
Items-send T s = view_send _ _ _ _ _ (struct_may_send (ItemsInside.the_type T) (Vec-send T s, tt))

Bytes-send : IsSend Bytes.the_row
Bytes-send = view_send _ _ _ _ _ (struct_may_send BytesInside.the_type (search passing depth 40, tt))

Value-part : IsSend Value.the_field.row
Value-part = enum_send (E.shape Value.the_type) (tt, ((search passing depth 40, tt), ((search passing depth 40, tt), ((search (Bytes-send, passing) depth 40, tt), ((search (Bytes-send, passing) depth 40, tt), tt)))))

Value-send : IsSend Value.the_row
Value-send = whole_enum Value.the_type Value-part

Row-send : IsSend Row.the_row
Row-send = view_send _ _ _ _ _ (struct_may_send RowInside.the_type (search passing depth 40, (search passing depth 40, tt)))

Op-part : IsSend Op.the_field.row
Op-part = enum_send (E.shape Op.the_type) ((search (Value-part, passing) depth 40, tt), ((search passing depth 40, (search passing depth 40, tt)), ((search passing depth 40, (search passing depth 40, tt)), ((search passing depth 40, (search passing depth 40, (search passing depth 40, tt))), ((search passing depth 40, (search passing depth 40, (search passing depth 40, tt))), tt)))))

Op-send : IsSend Op.the_row
Op-send = whole_enum Op.the_type Op-part

Terms-send : IsSend Terms.the_row
Terms-send = view_send _ _ _ _ _ (struct_may_send TermsInside.the_type (search (Op-send, Items-send, passing) depth 40, (search (Items-send, passing) depth 40, tt)))

Column-part : IsSend Column.the_field.row
Column-part = struct_send (S.shape Column.the_type) (search (Bytes-send, passing) depth 40, (search passing depth 40, (search passing depth 40, (search passing depth 40, (search (Value-part, passing) depth 40, (search passing depth 40, tt))))))

Column-send : IsSend Column.the_row
Column-send = whole_struct Column.the_type Column-part

Reference-part : IsSend Reference.the_field.row
Reference-part = struct_send (S.shape Reference.the_type) (search (Items-send, passing) depth 40, (search (Bytes-send, passing) depth 40, (search (Bytes-send, Items-send, passing) depth 40, (search passing depth 40, (search passing depth 40, (search passing depth 40, tt))))))

Reference-send : IsSend Reference.the_row
Reference-send = whole_struct Reference.the_type Reference-part

Stamps-part : IsSend Stamps.the_field.row
Stamps-part = struct_send (S.shape Stamps.the_type) (search (Items-send, passing) depth 40, (search (Terms-send, passing) depth 40, (search (Bytes-send, Items-send, passing) depth 40, tt)))

Table-part : IsSend Table.the_field.row
Table-part = struct_send (S.shape Table.the_type) (search (Bytes-send, passing) depth 40, (search passing depth 40, (search (Column-send, Items-send, passing) depth 40, (search passing depth 40, (search (Items-send, passing) depth 40, (search (Items-send, passing) depth 40, (search (Items-send, passing) depth 40, (search (Terms-send, passing) depth 40, (search (Reference-send, Items-send, passing) depth 40, (search (Items-send, passing) depth 40, (search (Stamps-part, passing) depth 40, (search passing depth 40, tt))))))))))))

Table-send : IsSend Table.the_row
Table-send = whole_struct Table.the_type Table-part

Index-part : IsSend Index.the_field.row
Index-part = struct_send (S.shape Index.the_type) (search (Bytes-send, passing) depth 40, (search passing depth 40, (search passing depth 40, (search (Items-send, passing) depth 40, (search passing depth 40, (search passing depth 40, tt))))))

Index-send : IsSend Index.the_row
Index-send = whole_struct Index.the_type Index-part

View-part : IsSend View.the_field.row
View-part = struct_send (S.shape View.the_type) (search (Bytes-send, passing) depth 40, (search passing depth 40, (search (Bytes-send, passing) depth 40, (search (Bytes-send, passing) depth 40, (search passing depth 40, (search passing depth 40, tt))))))

View-send : IsSend View.the_row
View-send = whole_struct View.the_type View-part

Schema-part : IsSend Schema.the_field.row
Schema-part = struct_send (S.shape Schema.the_type) (search (Table-send, Items-send, passing) depth 40, (search (Index-send, Items-send, passing) depth 40, (search (View-send, Items-send, passing) depth 40, tt)))

Schema-send : IsSend Schema.the_row
Schema-send = whole_struct Schema.the_type Schema-part

Scan-part : IsSend Scan.the_field.row
Scan-part = struct_send (S.shape Scan.the_type) (search passing depth 40, (search (Items-send, passing) depth 40, (search (Items-send, passing) depth 40, (search (Items-send, passing) depth 40, (search passing depth 40, tt)))))

Stage-part : IsSend Stage.the_field.row
Stage-part = enum_send (E.shape Stage.the_type) (tt, ((search passing depth 40, (search (Scan-part, passing) depth 40, (search passing depth 40, tt))), ((search passing depth 40, (search (Items-send, passing) depth 40, (search (Scan-part, passing) depth 40, (search passing depth 40, tt)))), ((search passing depth 40, (search passing depth 40, (search (Items-send, passing) depth 40, (search passing depth 40, tt)))), ((search passing depth 40, (search passing depth 40, tt)), ((search passing depth 40, (search (Items-send, passing) depth 40, (search (Items-send, passing) depth 40, (search passing depth 40, tt)))), ((search passing depth 40, (search (Items-send, passing) depth 40, (search (Items-send, passing) depth 40, (search (Items-send, passing) depth 40, (search passing depth 40, tt))))), tt)))))))

Stage-send : IsSend Stage.the_row
Stage-send = whole_enum Stage.the_type Stage-part

Groups-part : IsSend Groups.the_field.row
Groups-part = struct_send (S.shape Groups.the_type) (search (Items-send, passing) depth 40, (search (Items-send, passing) depth 40, (search (Items-send, passing) depth 40, (search (Items-send, passing) depth 40, tt))))

Groups-send : IsSend Groups.the_row
Groups-send = whole_struct Groups.the_type Groups-part

Plan-send : IsSend Plan.the_row
Plan-send = view_send _ _ _ _ _ (struct_may_send PlanInside.the_type (search (Op-send, Items-send, passing) depth 40, (search (Stage-send, Items-send, passing) depth 40, (search passing depth 40, (search (Items-send, passing) depth 40, (search (Groups-send, passing) depth 40, (search (Items-send, passing) depth 40, (search passing depth 40, (search (Items-send, passing) depth 40, (search (Items-send, passing) depth 40, (search passing depth 40, (search passing depth 40, tt))))))))))))

Made-part : IsSend Made.the_field.row
Made-part = enum_send (E.shape Made.the_type) ((search (Plan-send, passing) depth 40, tt), ((search passing depth 40, (search passing depth 40, (search passing depth 40, (search passing depth 40, (search (Items-send, passing) depth 40, tt))))), ((search passing depth 40, (search (Plan-send, passing) depth 40, (search passing depth 40, (search passing depth 40, (search (Items-send, passing) depth 40, (search passing depth 40, tt)))))), tt)))

Made-send : IsSend Made.the_row
Made-send = whole_enum Made.the_type Made-part

Program-part : IsSend Program.the_field.row
Program-part = struct_send (S.shape Program.the_type) (search (Made-send, Items-send, passing) depth 40, (search (Plan-send, passing) depth 40, tt))

Program-send : IsSend Program.the_row
Program-send = whole_struct Program.the_type Program-part

Source-part : IsSend Source.the_field.row
Source-part = enum_send (E.shape Source.the_type) ((search (Terms-send, passing) depth 40, (search passing depth 40, tt)), ((search (Program-part, passing) depth 40, tt), tt))

Upsert-part : IsSend Upsert.the_field.row
Upsert-part = struct_send (S.shape Upsert.the_type) (search (Items-send, passing) depth 40, (search (Program-send, passing) depth 40, tt))

Upsert-send : IsSend Upsert.the_row
Upsert-send = whole_struct Upsert.the_type Upsert-part

Command-part : IsSend Command.the_field.row
Command-part = enum_send (E.shape Command.the_type) ((search (Program-part, passing) depth 40, (search (Bytes-send, Items-send, passing) depth 40, tt)), ((search passing depth 40, (search (Source-part, passing) depth 40, tt)), ((search passing depth 40, (search passing depth 40, (search (Source-part, passing) depth 40, (search (Upsert-send, Items-send, passing) depth 40, tt)))), ((search passing depth 40, (search (Program-part, passing) depth 40, tt)), ((search passing depth 40, (search (Program-part, passing) depth 40, tt)), (tt, ((search passing depth 40, tt), (tt, ((search passing depth 40, tt), ((search passing depth 40, tt), ((search passing depth 40, tt), ((search (Value-send, Items-send, passing) depth 40, (search passing depth 40, (search (Bytes-send, Items-send, passing) depth 40, tt))), (tt, (tt, (tt, ((search (Bytes-send, passing) depth 40, tt), ((search (Bytes-send, passing) depth 40, tt), ((search (Bytes-send, passing) depth 40, tt), (tt, tt)))))))))))))))))))

Returning-part : IsSend Returning.the_field.row
Returning-part = struct_send (S.shape Returning.the_type) (search (Bytes-send, Items-send, passing) depth 40, (search (Source-part, passing) depth 40, tt))

Returning-send : IsSend Returning.the_row
Returning-send = whole_struct Returning.the_type Returning-part

Compiled-part : IsSend Compiled.the_field.row
Compiled-part = struct_send (S.shape Compiled.the_type) (search (Command-part, passing) depth 40, (search (Returning-send, passing) depth 40, (search (Bytes-send, Items-send, passing) depth 40, (search (Bytes-send, Items-send, passing) depth 40, (search passing depth 40, (search passing depth 40, (search passing depth 40, tt)))))))

Entry-part : IsSend Entry.the_field.row
Entry-part = struct_send (S.shape Entry.the_type) (search (Bytes-send, passing) depth 40, (search (Compiled-part, passing) depth 40, (search passing depth 40, tt)))

Entry-send : IsSend Entry.the_row
Entry-send = whole_struct Entry.the_type Entry-part

Mark-part : IsSend Mark.the_field.row
Mark-part = struct_send (S.shape Mark.the_type) (search (Bytes-send, passing) depth 40, (search passing depth 40, (search (Schema-send, passing) depth 40, tt)))

Mark-send : IsSend Mark.the_row
Mark-send = whole_struct Mark.the_type Mark-part

History-part : IsSend History.the_field.row
History-part = struct_send (S.shape History.the_type) (search (Schema-send, passing) depth 40, (search (Mark-send, passing) depth 40, tt))

RunRows-send : IsSend RunRows.the_row
RunRows-send = view_send _ _ _ _ _ (struct_may_send RunRowsInside.the_type (search (Row-send, passing) depth 40, (search passing depth 40, tt)))

Page-send : IsSend Page.the_row
Page-send = view_send _ _ _ _ _ (struct_may_send PageInside.the_type (search (RunRows-send, passing) depth 40, (search passing depth 40, (search passing depth 40, (search passing depth 40, tt)))))

Way-part : IsSend Way.the_field.row
Way-part = enum_send (E.shape Way.the_type) (tt, ((search passing depth 40, (search passing depth 40, (search passing depth 40, (search (Row-send, passing) depth 40, tt)))), ((search passing depth 40, (search passing depth 40, (search passing depth 40, (search (Row-send, passing) depth 40, (search passing depth 40, (search passing depth 40, tt)))))), ((search passing depth 40, (search passing depth 40, (search passing depth 40, (search (Row-send, passing) depth 40, (search passing depth 40, tt))))), ((search passing depth 40, (search passing depth 40, tt)), tt)))))

ExecMark-part : IsSend ExecMark.the_field.row
ExecMark-part = struct_send (S.shape ExecMark.the_type) (search (Row-send, passing) depth 40, (search (Way-part, passing) depth 40, tt))

ExecMark-send : IsSend ExecMark.the_row
ExecMark-send = whole_struct ExecMark.the_type ExecMark-part

Marks-send : IsSend Marks.the_row
Marks-send = view_send _ _ _ _ _ (struct_may_send MarksInside.the_type (search (ExecMark-send, passing) depth 40, tt))

Seen-part : IsSend Seen.the_field.row
Seen-part = struct_send (S.shape Seen.the_type) (search (RunRows-send, passing) depth 40, tt)

Rounds-part : IsSend Rounds.the_field.row
Rounds-part = struct_send (S.shape Rounds.the_type) (search passing depth 40, (search (Seen-part, passing) depth 40, tt))

Rounds-send : IsSend Rounds.the_row
Rounds-send = whole_struct Rounds.the_type Rounds-part

Stream-part : IsSend Stream.the_field.row
Stream-part = struct_send (S.shape Stream.the_type) (search (Row-send, passing) depth 40, (search (Page-send, passing) depth 40, (search (Marks-send, passing) depth 40, (search passing depth 40, (search passing depth 40, (search (Rounds-send, passing) depth 40, tt))))))

Slots-send : IsSend Slots.the_row
Slots-send = view_send _ _ _ _ _ (struct_may_send SlotsInside.the_type (search passing depth 40, (search (Row-send, passing) depth 40, (search passing depth 40, tt))))

Workspace-part : IsSend Workspace.the_field.row
Workspace-part = struct_send (S.shape Workspace.the_type) (search passing depth 40, (search (Row-send, passing) depth 40, (search (Slots-send, passing) depth 40, (search passing depth 40, (search passing depth 40, (search passing depth 40, tt))))))

ReadRow-send : IsSend ReadRow.the_row
ReadRow-send = view_send _ _ _ _ _ (struct_may_send ReadRowInside.the_type (search (Row-send, passing) depth 40, (search passing depth 40, tt)))

Reading-part : IsSend Reading.the_field.row
Reading-part = struct_send (S.shape Reading.the_type) (search (Stream-part, passing) depth 40, (search passing depth 40, (search (ReadRow-send, passing) depth 40, (search passing depth 40, (search (ReadRow-send, passing) depth 40, (search passing depth 40, tt))))))

Tree-part : IsSend Tree.the_field.row
Tree-part = struct_send (S.shape Tree.the_type) (search passing depth 40, (search passing depth 40, (search (Row-send, passing) depth 40, (search (Row-send, passing) depth 40, tt))))

Tree-send : IsSend Tree.the_row
Tree-send = whole_struct Tree.the_type Tree-part

Logged-part : IsSend Logged.the_field.row
Logged-part = enum_send (E.shape Logged.the_type) ((search passing depth 40, (search (Row-send, passing) depth 40, tt)), ((search passing depth 40, (search passing depth 40, tt)), ((search passing depth 40, (search passing depth 40, (search (Row-send, passing) depth 40, tt))), ((search passing depth 40, (search passing depth 40, (search (Row-send, passing) depth 40, tt))), ((search passing depth 40, (search (Tree-part, passing) depth 40, tt)), ((search passing depth 40, tt), tt))))))

Logged-send : IsSend Logged.the_row
Logged-send = whole_enum Logged.the_type Logged-part

MemStore-part : IsSend MemStore.the_field.row
MemStore-part = struct_send (S.shape MemStore.the_type) (search passing depth 40, (search (Tree-send, passing) depth 40, (search passing depth 40, (search (Tree-send, passing) depth 40, (search passing depth 40, (search passing depth 40, (search passing depth 40, (search (Logged-send, passing) depth 40, (search passing depth 40, (search (Tree-send, passing) depth 40, tt))))))))))

MemStore-send : IsSend MemStore.the_row
MemStore-send = whole_struct MemStore.the_type MemStore-part

Wanted-part : IsSend Wanted.the_field.row
Wanted-part = struct_send (S.shape Wanted.the_type) (search passing depth 40, (search passing depth 40, (search (Row-send, passing) depth 40, tt)))

Wanted-send : IsSend Wanted.the_row
Wanted-send = whole_struct Wanted.the_type Wanted-part

Listed-part : IsSend Listed.the_field.row
Listed-part = struct_send (S.shape Listed.the_type) (search (Wanted-send, passing) depth 40, (search passing depth 40, (search passing depth 40, tt)))

Listed-send : IsSend Listed.the_row
Listed-send = whole_struct Listed.the_type Listed-part

Saved-part : IsSend Saved.the_field.row
Saved-part = struct_send (S.shape Saved.the_type) (search (Wanted-send, passing) depth 40, (search passing depth 40, (search passing depth 40, (search passing depth 40, (search (Listed-send, passing) depth 40, tt)))))

Saved-send : IsSend Saved.the_row
Saved-send = whole_struct Saved.the_type Saved-part

BtreeBatch-part : IsSend BtreeBatch.the_field.row
BtreeBatch-part = struct_send (S.shape BtreeBatch.the_type) (search passing depth 40, (search passing depth 40, (search passing depth 40, (search passing depth 40, (search passing depth 40, (search passing depth 40, (search passing depth 40, tt)))))))

Cursor-part : IsSend Cursor.the_field.row
Cursor-part = struct_send (S.shape Cursor.the_type) (search passing depth 40, (search passing depth 40, (search passing depth 40, (search passing depth 40, (search passing depth 40, (search passing depth 40, (search (BtreeBatch-part, passing) depth 40, (search passing depth 40, tt))))))))

Cursor-send : IsSend Cursor.the_row
Cursor-send = whole_struct Cursor.the_type Cursor-part

Scratch-part : IsSend Scratch.the_field.row
Scratch-part = struct_send (S.shape Scratch.the_type) (search passing depth 40, (search passing depth 40, (search passing depth 40, (search passing depth 40, tt))))

PageIndex-send : IsSend PageIndex.the_row
PageIndex-send = view_send _ _ _ _ _ (struct_may_send PageIndexInside.the_type (search passing depth 40, (search passing depth 40, (search passing depth 40, tt))))

Batch-part : IsSend Batch.the_field.row
Batch-part = struct_send (S.shape Batch.the_type) (search passing depth 40, (search (PageIndex-send, passing) depth 40, (search passing depth 40, tt)))

Batch-send : IsSend Batch.the_row
Batch-send = whole_struct Batch.the_type Batch-part

Layer-part : IsSend Layer.the_field.row
Layer-part = struct_send (S.shape Layer.the_type) (search (Batch-part, passing) depth 40, (search passing depth 40, tt))

Layer-send : IsSend Layer.the_row
Layer-send = whole_struct Layer.the_type Layer-part

Cache-part : IsSend Cache.the_field.row
Cache-part = struct_send (S.shape Cache.the_type) (search passing depth 40, (search passing depth 40, (search passing depth 40, tt)))

FreeSet-part : IsSend FreeSet.the_field.row
FreeSet-part = struct_send (S.shape FreeSet.the_type) (search passing depth 40, (search passing depth 40, tt))

Host-part : IsSend Host.the_field.row
Host-part = struct_send (S.shape Host.the_type) (search passing depth 40, (search passing depth 40, tt))

Host-send : IsSend Host.the_row
Host-send = whole_struct Host.the_type Host-part

module _ (D : RattleType) (g : disk.Ghosts D.Denot) where
  Log-part : IsSend D → IsSend (Log.the_field D g).row
  Log-part d = struct_send (S.shape (Log.the_type D g)) (search passing depth 40, (search passing depth 40, (search passing depth 40, (search (PageIndex-send, passing) depth 40, (search passing depth 40, (search passing depth 40, (search passing depth 40, (search passing depth 40, (search passing depth 40, (search passing depth 40, (search passing depth 40, (search passing depth 40, (search passing depth 40, tt)))))))))))))

module _ (D : RattleType) (g : disk.Ghosts D.Denot) where
  Pager-part : IsSend D → IsSend (Pager.the_field D g).row
  Pager-part d = struct_send (S.shape (Pager.the_type D g)) (search (Log-part, passing) depth 40, (search (Batch-part, passing) depth 40, (search passing depth 40, (search passing depth 40, (search (Layer-send, passing) depth 40, (search passing depth 40, (search (Batch-send, passing) depth 40, (search (Cache-part, passing) depth 40, (search passing depth 40, (search passing depth 40, (search passing depth 40, (search passing depth 40, (search passing depth 40, (search passing depth 40, tt))))))))))))))

module _ (D : RattleType) (g : disk.Ghosts D.Denot) where
  Backing-part : IsSend D → IsSend (Backing.the_field D g).row
  Backing-part d = struct_send (S.shape (Backing.the_type D g)) (search (Pager-part, passing) depth 40, (search passing depth 40, (search passing depth 40, (search passing depth 40, (search passing depth 40, tt)))))

module _ (D : RattleType) (g : disk.Ghosts D.Denot) where
  Pool-part : IsSend D → IsSend (Pool.the_field D g).row
  Pool-part d = struct_send (S.shape (Pool.the_type D g)) (search (Backing-part, passing) depth 40, (search (FreeSet-part, passing) depth 40, (search passing depth 40, (search passing depth 40, (search passing depth 40, (search passing depth 40, (search passing depth 40, tt)))))))

module _ (D : RattleType) (g : disk.Ghosts D.Denot) where
  FileStore-part : IsSend D → IsSend (FileStore.the_field D g).row
  FileStore-part d = struct_send (S.shape (FileStore.the_type D g)) (search (Pool-part, passing) depth 40, (search passing depth 40, (search (Wanted-send, passing) depth 40, (search passing depth 40, (search (Saved-send, passing) depth 40, (search passing depth 40, (search (Cursor-send, passing) depth 40, (search (Scratch-part, passing) depth 40, (search passing depth 40, (search passing depth 40, (search passing depth 40, (search passing depth 40, tt))))))))))))

  FileStore-send : IsSend D → IsSend (FileStore.the_row D g)
  FileStore-send d = whole_struct (FileStore.the_type D g) (FileStore-part d)

module _ (C B : RattleType) (g : calls.Ghosts C.Denot) (h : start.Ghosts B.Denot) where
  Modelled-part : IsSend C → IsSend B → IsSend (Modelled.the_field C B g h).row
  Modelled-part c b = struct_send (S.shape (Modelled.the_type C B g h)) (search passing depth 40, (search passing depth 40, (search passing depth 40, (search passing depth 40, (search passing depth 40, (search passing depth 40, tt))))))

  Modelled-send : IsSend C → IsSend B → IsSend (Modelled.the_row C B g h)
  Modelled-send c b = whole_struct (Modelled.the_type C B g h) (Modelled-part c b)

module _ (A : RattleType) (g : store.Ghosts A.Denot) where
  Connection-send : IsSend A → IsSend (Connection.the_row A g)
  Connection-send a = view_send _ _ _ _ _ (struct_may_send (ConnectionInside.the_type A g) (search passing depth 40, (search (Schema-part, passing) depth 40, (search (History-part, passing) depth 40, (search passing depth 40, (search passing depth 40, (search passing depth 40, (search (Entry-send, passing) depth 40, (search passing depth 40, (search (Row-send, passing) depth 40, (search passing depth 40, (search passing depth 40, (search (Reading-part, passing) depth 40, (search (Workspace-part, passing) depth 40, (search passing depth 40, tt)))))))))))))))

module _ (A : RattleType) (g : store.Ghosts A.Denot) where
  SqlKeeper-part : IsSend A → IsSend (SqlKeeper.the_field A g).row
  SqlKeeper-part a = struct_send (S.shape (SqlKeeper.the_type A g)) (search (Connection-send, passing) depth 40, (search passing depth 40, (search passing depth 40, tt)))

pub OpenedKeeper-send : IsSend OpenedKeeper.the_row
OpenedKeeper-send = enum_may_send OpenedKeeper.the_type ((search (SqlKeeper-part, MemStore-send, passing) depth 40, tt), ((search (SqlKeeper-part, FileStore-part, FileStore-send, Modelled-part, Modelled-send, Host-send, passing) depth 40, tt), tt))
