pub mod SmallDevices
