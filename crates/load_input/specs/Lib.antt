pub mod LoadInput
